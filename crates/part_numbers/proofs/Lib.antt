pub mod ThereAndBack
pub mod OneAnswer
