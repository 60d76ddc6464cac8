pub mod Waiting
pub mod Relied
