pub mod Complete
mod Lists
mod Opens
mod Ordered
mod Placed
pub mod Readying
mod Roots
mod Scripted
mod Together
