pub mod Standing
pub mod Conflicts
pub mod Commits
pub mod Logs
pub mod Plans
pub mod Trials
pub mod Snapshots
