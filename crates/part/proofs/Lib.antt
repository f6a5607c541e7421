pub mod Choice
pub mod Laws
pub mod Bits
pub mod OneAnswer
pub mod Complement
