pub mod Channels
pub mod Lengths
pub mod InstrumentLimits
pub mod Instances
