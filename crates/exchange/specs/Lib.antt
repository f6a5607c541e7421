pub mod Exchange
pub mod Promises
