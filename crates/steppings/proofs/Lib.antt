pub mod Turned
pub mod Alike
pub mod Cases
