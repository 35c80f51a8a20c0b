pub mod Drops
pub mod Runs
pub mod Places
