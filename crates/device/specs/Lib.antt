pub mod Blocks
pub mod Known
pub mod InMemory
pub mod Ran
pub mod Sides
