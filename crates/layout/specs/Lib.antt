pub mod Header
pub mod PageList
pub mod Reading
