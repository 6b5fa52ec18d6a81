pub mod ReplyBytes
pub mod Engines
pub mod Answered
pub mod Opened
pub mod Told
pub mod TakenSlots
pub mod LineEnds
pub mod Imports
