pub mod Claims
pub mod Passes
pub mod Steps
