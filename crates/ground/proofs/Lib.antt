pub mod Cases
pub mod Members
pub mod Ranges
pub mod Sequences
pub mod Tables
