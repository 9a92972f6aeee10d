pub mod DigitRuns
pub mod Wholes
pub mod Stops
pub mod RoundTrip
pub mod Examples
pub mod Instances
