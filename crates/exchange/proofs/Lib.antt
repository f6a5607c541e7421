pub mod Feeding
pub mod Records
pub mod Pieces
pub mod ReadOut
pub mod OneAnswer
