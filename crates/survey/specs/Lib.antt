pub mod Seeing
pub mod Passing
pub mod Tallies
