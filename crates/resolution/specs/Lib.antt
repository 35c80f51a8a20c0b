pub mod Catching
pub mod Kinds
pub mod Resolving
pub mod Ways
