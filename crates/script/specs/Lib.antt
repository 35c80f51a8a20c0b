pub mod Json
pub mod Script
pub mod Scope
pub mod Seen
pub mod Phases
