pub mod Stepping
pub mod Extending
pub mod Owned
