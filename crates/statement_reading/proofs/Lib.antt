mod Treeless
mod Foreseen
