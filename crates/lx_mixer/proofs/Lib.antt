pub mod Greatest
pub mod Tables
pub mod Words
pub mod Proportions
mod Imports
