pub mod Doubts
pub mod Fitting
pub mod Kept
pub mod Numbers
pub mod OnlyPattern
pub mod Rows
pub mod Same
pub mod Subtracting
