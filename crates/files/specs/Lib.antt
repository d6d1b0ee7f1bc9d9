pub mod Clearing
pub mod Life
pub mod System
