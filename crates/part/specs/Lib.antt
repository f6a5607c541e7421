pub mod Part
pub mod Protection
pub mod Promises
pub mod OneAnswer
