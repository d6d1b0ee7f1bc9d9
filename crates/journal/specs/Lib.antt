pub mod Journal
pub mod Plans
pub mod Admission
