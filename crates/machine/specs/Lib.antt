pub mod Meets
pub mod Machine
pub mod Telling
pub mod Running
pub mod Sound
pub mod Opacity
pub mod Gates
