-- What the contracts of the output workers speak of.
pub mod Lines
pub mod Works
pub mod Engines
pub mod Places
pub mod LiveOutcome
pub mod Imports
