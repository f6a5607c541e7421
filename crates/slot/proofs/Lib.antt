pub mod Rooms
pub mod Turns
pub mod Loop
pub mod OneAnswer
