pub mod Searches
pub mod Sound
pub mod Rings
pub mod Laws
pub mod OneAnswer
