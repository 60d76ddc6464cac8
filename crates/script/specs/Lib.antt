pub mod Format
pub mod Answers
pub mod Patterns
