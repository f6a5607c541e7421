pub mod Whole
pub mod Orderly
pub mod Demand
pub mod Examples
