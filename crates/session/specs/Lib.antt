pub mod Rule
pub mod Lane
pub mod Adds
pub mod Passes
pub mod Claimed
pub mod Engines
pub mod Telling
