pub mod Faults
pub mod Headline
pub mod Kept
pub mod Lines
pub mod Placing
pub mod Telling
