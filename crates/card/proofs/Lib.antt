pub mod Digits
pub mod Stored
pub mod Lengths
pub mod OneAnswer
