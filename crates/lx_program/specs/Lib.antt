pub mod Exits
pub mod NamedJob
pub mod Words
pub mod Places
pub mod Wants
pub mod Imports
