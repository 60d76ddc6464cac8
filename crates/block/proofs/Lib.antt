pub mod Checking
pub mod Sealing
pub mod Building
pub mod Reading
