pub mod Calls
pub mod Streams
pub mod Turns
pub mod Wire
pub mod Replies
pub mod Sheets
pub mod Demands
