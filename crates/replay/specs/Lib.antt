pub mod Elements
pub mod Lines
pub mod Outcomes
