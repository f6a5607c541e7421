pub mod Behind
pub mod OneAnswer
