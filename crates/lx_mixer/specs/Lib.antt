pub mod Mix
pub mod Table
