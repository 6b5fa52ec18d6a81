pub mod Handle
pub mod Told
pub mod Calls
