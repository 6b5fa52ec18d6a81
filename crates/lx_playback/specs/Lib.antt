pub mod Valid
pub mod Told
pub mod QuietTicks
