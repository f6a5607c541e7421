pub mod Exact
pub mod Writing
pub mod Pages
pub mod Places
pub mod Maker
pub mod OneAnswer
