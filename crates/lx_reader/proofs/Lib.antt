pub mod LastEntries
pub mod PlacedNumbers
pub mod Cues
pub mod Shows
pub mod NamedRecords
pub mod SectionLevels
pub mod Members
pub mod OpenMoves
pub mod PlacedOver
pub mod LineSteps
pub mod OpenCues
pub mod OpenSteps
pub mod OpenLevels
pub mod OpenRecords
pub mod LevelsLines
pub mod Pairs
mod PercentLevels
pub mod ReadingStates
pub mod ReadLines
pub mod LinePass
pub mod LookMoves
mod Imports
