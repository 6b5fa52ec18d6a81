pub mod ListCues
pub mod TwoFrames
pub mod KeptLists
pub mod OpenedLists
pub mod SecondLines
pub mod TwoAnswers
pub mod NextAttempt
pub mod LineAnswers
pub mod Replays
mod Imports
