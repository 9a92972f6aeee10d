pub mod Answers
pub mod States
pub mod Steps
pub mod Calls
