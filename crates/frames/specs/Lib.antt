pub mod Frames
pub mod Encoding
pub mod Walk
