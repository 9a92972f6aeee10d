pub mod Readings
pub mod Shown
