pub mod Lists
pub mod CuePlans
pub mod CueLevels
pub mod ChanBits
pub mod Walks
pub mod KeptLevels
pub mod MoveMarks
pub mod ChangedColumns
pub mod KeptRows
pub mod AssertedCues
pub mod SameLists
pub mod TakenBack
pub mod NothingKept
pub mod PlacedMoves
pub mod MendedSheets
mod Imports
