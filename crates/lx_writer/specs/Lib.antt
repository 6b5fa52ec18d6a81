pub mod ShiftedLines
