pub mod Steppings
