pub mod Logs
pub mod Lines
pub mod Effects
pub mod Parts
