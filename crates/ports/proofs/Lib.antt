pub mod PortLimits
pub mod Characters
pub mod Instances
