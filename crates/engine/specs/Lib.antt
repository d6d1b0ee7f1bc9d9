pub mod Works
pub mod Doing
pub mod Calling
pub mod Living
pub mod Recovering
pub mod Making
pub mod Memory
