pub mod Book
pub mod Rule
pub mod Plays
pub mod Steps
pub mod Passes
pub mod Trials
