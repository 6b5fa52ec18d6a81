pub mod Histories
pub mod SomeDesk
pub mod DeskSteps
pub mod Turns
pub mod LineProgress
pub mod Lines
pub mod LineAnswers
pub mod Lawful
mod Imports
