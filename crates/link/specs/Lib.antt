pub mod Nodes
pub mod Worlds
pub mod Making
