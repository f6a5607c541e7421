pub mod Records
pub mod Logs
pub mod Checks
pub mod Lines
pub mod Effects
pub mod Parts
