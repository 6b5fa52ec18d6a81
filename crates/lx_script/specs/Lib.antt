pub mod Cells
pub mod ReplyTexts
pub mod FirstWords
pub mod UndoLines
pub mod LinesWithUndo
pub mod LoneKeys
pub mod Imports
