pub mod Resting
