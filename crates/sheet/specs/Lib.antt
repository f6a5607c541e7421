pub mod Numbers
pub mod Sheet
pub mod Page
pub mod Promises
pub mod Cases
