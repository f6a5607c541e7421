pub mod Units
pub mod OneAnswer
