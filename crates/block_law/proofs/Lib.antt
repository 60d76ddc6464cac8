pub mod Whole
pub mod Seal
pub mod Apart
pub mod Agreement
pub mod Laws
