pub mod Journals
pub mod Law
pub mod ShutOut
