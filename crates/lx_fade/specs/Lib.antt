pub mod Fades
pub mod RunStack
pub mod Row
