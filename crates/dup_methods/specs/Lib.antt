pub mod Originals
pub mod Names
pub mod Limits
pub mod Duplicates
pub mod DuplicateLaw
