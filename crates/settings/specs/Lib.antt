pub mod Models
pub mod Kinds
pub mod Rows
pub mod Table
pub mod Mnemonics
pub mod Limits
