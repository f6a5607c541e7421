pub mod Words
pub mod Scans
pub mod Laying
pub mod OneAnswer
