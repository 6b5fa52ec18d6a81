pub mod Texts
pub mod Ready
pub mod FirstWords
pub mod WordLengths
pub mod Phrases
pub mod UndoLines
pub mod ReadLines
mod Imports
