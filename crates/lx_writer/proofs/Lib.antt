pub mod TextPieces
pub mod ReadyParts
mod Imports
