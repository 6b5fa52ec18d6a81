pub mod DimmerTable
pub mod Slots
pub mod FollowerChains
