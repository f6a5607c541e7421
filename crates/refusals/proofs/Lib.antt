pub mod Checked
pub mod OneAnswer
