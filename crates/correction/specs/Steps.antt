-- What private functions promise one another: no public contract rests on it.
pub mod Changes
pub mod Decoded
pub mod Forney
pub mod Listing
