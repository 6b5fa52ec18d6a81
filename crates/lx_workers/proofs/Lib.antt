pub mod WrittenLines
pub mod TapSteps
pub mod WorkerSteps
pub mod LastLines
mod Runs
mod PlacesKept
mod EngineSteps
mod Imports
