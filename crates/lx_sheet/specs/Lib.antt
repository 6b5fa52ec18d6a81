pub mod Rows
pub mod SheetMeaning
pub mod Block
pub mod After
pub mod WordPlaces
pub mod Marks
pub mod Imports
