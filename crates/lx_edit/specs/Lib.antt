pub mod Found
pub mod PlanMeaning
pub mod Kept
pub mod ChanSet
pub mod CueChanges
pub mod Undone
pub mod Imports
