pub mod Each
pub mod Replicas
pub mod Resync
pub mod Landed
pub mod Numbered
pub mod Plans
