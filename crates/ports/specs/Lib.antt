pub mod Line
pub mod Stream
pub mod Hearing
pub mod Limits
pub mod Walk
