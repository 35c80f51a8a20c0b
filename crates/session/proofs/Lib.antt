pub mod Outer
pub mod Framed
pub mod Tries
pub mod Marked
pub mod Calling
pub mod Elements
pub mod Lanes
pub mod Stood
pub mod Claiming
pub mod Longer
pub mod Either
pub mod Telling
pub mod Tried
mod Counts
