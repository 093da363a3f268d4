pub mod Answered
pub mod LentLists
pub mod Sets
pub mod Stories
