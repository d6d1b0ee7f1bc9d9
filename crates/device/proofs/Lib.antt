pub mod Whole
pub mod Runs
