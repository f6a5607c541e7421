pub mod Keeper
pub mod Promises
