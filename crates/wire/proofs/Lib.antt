pub mod Scanning
pub mod Writing
pub mod Rereading
pub mod Standing
