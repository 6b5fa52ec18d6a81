-- What the contracts of the version gate speak of.
pub mod CommandLists
pub mod Histories
pub mod Frames
pub mod Readings
pub mod Notes
pub mod Gates
pub mod Desks
