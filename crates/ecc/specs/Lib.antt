pub mod Ecc
pub mod Promises
