pub mod RecordedCues
pub mod RecordLaws
pub mod KeptCues
pub mod ChosenChannels
pub mod RecordAnswer
mod Imports
