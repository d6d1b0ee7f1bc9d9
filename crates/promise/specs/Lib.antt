pub mod Register
pub mod LateReading
pub mod Bounds
