mod Sames
mod Selves
mod Sized
