pub mod Room
pub mod Stores
pub mod OneAnswer
