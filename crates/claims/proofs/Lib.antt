mod Weights
mod Numbers
pub mod Ascending
mod Gathered
mod Keeping
mod Showing
