pub mod Means
pub mod Padded
pub mod Reached
pub mod Steps
