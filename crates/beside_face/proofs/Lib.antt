pub mod Besides
pub mod OneAnswer
