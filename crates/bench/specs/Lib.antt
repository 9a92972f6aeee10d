pub mod Blocks
pub mod Walk
