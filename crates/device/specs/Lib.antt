pub mod Machine
pub mod Work
pub mod Instructions
pub mod Step
pub mod Sound
