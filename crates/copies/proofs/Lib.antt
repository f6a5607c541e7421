pub mod Values
pub mod Holding
pub mod Reader
pub mod Back
pub mod Damage
pub mod Spare
pub mod OneAnswer
