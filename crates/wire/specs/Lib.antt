pub mod Encoded
pub mod Calls
pub mod Answers
