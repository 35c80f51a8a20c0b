pub mod Fault
pub mod Files
pub mod Seen
pub mod Told
