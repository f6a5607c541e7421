pub mod Rule
pub mod Xor
pub mod Linear
pub mod Noticing
pub mod OneAnswer
