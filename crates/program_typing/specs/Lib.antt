pub mod Early
pub mod Tables
pub mod Typed
