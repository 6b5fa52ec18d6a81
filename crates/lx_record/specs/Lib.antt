pub mod Cues
pub mod Laws
pub mod Records
pub mod Imports
