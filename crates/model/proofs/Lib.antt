pub mod Lists
pub mod Safely
pub mod Puts
pub mod Holding
pub mod Runs
pub mod FirstAnswer
