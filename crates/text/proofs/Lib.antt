pub mod Pages
pub mod Decimals
pub mod Marks
pub mod Instances
pub mod HexDigits
