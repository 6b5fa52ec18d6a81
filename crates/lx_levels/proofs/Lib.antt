pub mod Entries
pub mod UnderWay
pub mod Written
pub mod AddedRuns
pub mod HiddenRuns
pub mod Columns
pub mod Looks
pub mod Stands
pub mod RunsInTurn
mod Imports
