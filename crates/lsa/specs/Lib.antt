pub mod Standing
pub mod Owning
pub mod Conflicts
pub mod Trials
