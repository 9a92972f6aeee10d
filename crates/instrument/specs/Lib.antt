pub mod Events
pub mod Limits
pub mod Replies
