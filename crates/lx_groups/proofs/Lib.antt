pub mod Proportion
