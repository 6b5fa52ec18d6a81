pub mod PushedFades
pub mod RunStacks
pub mod Rows
pub mod Stacks
mod Imports
