pub mod Rewritten
pub mod Copied
pub mod Places
pub mod Loads
pub mod Blocks
pub mod Bodies
