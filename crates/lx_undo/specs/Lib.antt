pub mod Shows
pub mod UndoDeskMeaning
pub mod HistoryLines
pub mod CommandProgress
pub mod Laws
pub mod Imports
