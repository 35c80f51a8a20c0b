pub mod History
pub mod Log
pub mod Output
pub mod Refusal
pub mod Schedule
