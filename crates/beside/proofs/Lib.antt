pub mod Asked
pub mod Next
pub mod Left
pub mod Works
pub mod BlankMemory
pub mod OneAnswer
