pub mod Prefixes
pub mod BatchAddition
pub mod LongestList
pub mod FirstVersion
pub mod DarkDesk
pub mod UnsentCommands
pub mod DeskSteps
mod Imports
