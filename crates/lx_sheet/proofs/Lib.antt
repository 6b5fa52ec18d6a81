pub mod Cells
pub mod BlockReach
pub mod FilledColumns
pub mod Found
pub mod LevelsAfter
pub mod ListedRows
pub mod MarkedRows
pub mod MarkWords
pub mod Moves
pub mod Numbers
pub mod Past
pub mod RowPool
pub mod RightRows
pub mod Rows
pub mod ShiftedRows
mod Imports
