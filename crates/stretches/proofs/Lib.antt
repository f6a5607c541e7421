pub mod Steps
pub mod Loop
pub mod Filled
pub mod Zeros
pub mod OneAnswer
