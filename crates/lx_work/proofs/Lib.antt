pub mod Places
mod Zip
