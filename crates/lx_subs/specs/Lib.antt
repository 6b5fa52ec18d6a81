pub mod Faders
