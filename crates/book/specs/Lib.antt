pub mod Book
pub mod Calls
pub mod Codes
pub mod Mending
pub mod Promise
pub mod Story
