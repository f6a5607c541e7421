pub mod Crc
pub mod Promises
