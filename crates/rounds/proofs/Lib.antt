pub mod Answers
pub mod Order
pub mod Fair
pub mod Unseen
