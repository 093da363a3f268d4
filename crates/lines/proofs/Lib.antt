pub mod Ahead
pub mod Lines
pub mod Coming
