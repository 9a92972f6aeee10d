pub mod Splitting
pub mod Words
pub mod Verdicts
pub mod Fields
pub mod Judging
pub mod Replies
pub mod Sheets
pub mod Walk
