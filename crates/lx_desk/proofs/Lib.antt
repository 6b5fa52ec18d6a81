mod CheckLine
mod Endings
mod Inputs
mod Finishing
mod Jobs
mod MadeEndings
mod PlacesInUse
mod Played
mod AnyFailures
mod LiveRuns
mod LiveEnds
mod CrewRuns
pub mod CrewEnds
pub mod EmptyPrefixes
mod MadeInputs
mod ToldFaults
mod Imports
