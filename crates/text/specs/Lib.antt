pub mod Text
pub mod Page
pub mod Writing
pub mod Digits
pub mod Spans
pub mod Control
pub mod Hex
