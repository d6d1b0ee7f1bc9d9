pub mod Numbers
pub mod Book
pub mod Disks
pub mod Plain
pub mod Promise
pub mod Two
pub mod Statements
pub mod Later
