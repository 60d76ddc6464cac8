pub mod Sending
pub mod Resending
pub mod Fronts
