pub mod Members
pub mod Ranges
