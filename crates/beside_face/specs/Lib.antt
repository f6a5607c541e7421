pub mod Beside
pub mod Promises
