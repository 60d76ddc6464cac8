pub mod Fresh
pub mod Leading
