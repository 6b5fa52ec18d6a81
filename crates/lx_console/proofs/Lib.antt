pub mod KeptOutputs
pub mod EditEffects
pub mod OutputChanges
pub mod TakenRows
pub mod AllRuns
pub mod NoMemory
pub mod Obedience
pub mod RunChanges
pub mod PassedTicks
pub mod Apart
mod Imports
