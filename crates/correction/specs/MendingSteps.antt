-- What private functions promise one another: no public contract rests on it.
pub mod Checked
pub mod Found
