pub mod Within
pub mod Mending
pub mod Unmarked
pub mod Kept
pub mod OneAnswer
