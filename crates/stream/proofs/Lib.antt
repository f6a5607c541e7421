pub mod Shifting
pub mod OneAnswer
