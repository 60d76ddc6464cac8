pub mod Rows
pub mod Rehearsals
