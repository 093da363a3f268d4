pub mod Faults
pub mod Pointwise
pub mod Lists
pub mod Roots
pub mod Registers
pub mod Steps
