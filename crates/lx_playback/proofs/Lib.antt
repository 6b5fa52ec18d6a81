pub mod CapturedTimes
pub mod Backwards
pub mod QuietTicks
mod Imports
