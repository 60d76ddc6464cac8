pub mod Sums
pub mod Crc
pub mod Shared
pub mod Steps
pub mod SumSteps
