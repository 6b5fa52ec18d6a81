-- What the contracts of the crew speak of.
pub mod Entries
pub mod Rule
pub mod Scripts
pub mod SentLines
pub mod EngineAnswers
pub mod Transcripts
pub mod OperatorWorks
pub mod CrewOutcome
pub mod Imports
