pub mod Refused
pub mod Quiet
pub mod Works
pub mod NoPart
pub mod OneAnswer
