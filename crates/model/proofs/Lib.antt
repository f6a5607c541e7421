pub mod Rooms
pub mod Loop
pub mod Single
pub mod OneAnswer
