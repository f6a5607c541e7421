pub mod Copies
pub mod Promises
