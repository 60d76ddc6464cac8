pub mod Lawful
pub mod Notes
pub mod Starting
