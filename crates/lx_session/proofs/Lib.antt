pub mod Stood
pub mod Refusals
pub mod AttemptSteps
pub mod ValidNext
pub mod ShownDesk
pub mod Replies
pub mod RepliedLines
pub mod Commands
pub mod AnsweredLines
pub mod EachLine
pub mod HeardLines
pub mod Fronts
pub mod LineOutcomes
pub mod SoFar
pub mod ScriptEnds
pub mod Rows
mod Imports
