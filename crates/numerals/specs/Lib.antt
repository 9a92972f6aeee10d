pub mod Runs
pub mod Whole
pub mod Exponential
pub mod Writing
