pub mod Engine
pub mod Kept
pub mod Serial
pub mod Snapshots
