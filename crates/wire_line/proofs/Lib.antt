pub mod Flat
pub mod Kept
