pub mod Stacks
pub mod Columns
pub mod CurrentFades
pub mod LevelsMeaning
pub mod Acts
pub mod RunsInTurn
pub mod Imports
