pub mod Texts
pub mod Laid
pub mod OneAnswer
pub mod Examples
