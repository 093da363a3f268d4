pub mod Patterns
pub mod Proposals
pub mod Steps
pub mod Answers
pub mod MendingSteps
