pub mod Fates
pub mod OneAnswer
