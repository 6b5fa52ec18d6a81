pub mod AnswerProgress
pub mod Crews
pub mod LastEntries
pub mod Lists
pub mod MergedEntries
pub mod Rules
pub mod SentLines
pub mod EngineSteps
pub mod Works
mod Imports
