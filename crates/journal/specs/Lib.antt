pub mod Pasts
pub mod Runs
pub mod Outcomes
