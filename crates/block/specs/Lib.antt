pub mod Statuses
pub mod Form
pub mod Headings
pub mod Building
pub mod Reading
