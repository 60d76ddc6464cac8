pub mod Frames
pub mod LogIns
pub mod Records
pub mod Ends
pub mod Sending
pub mod Calls
pub mod Links
pub mod Steps
