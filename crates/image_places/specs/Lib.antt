pub mod Places
pub mod Roles
