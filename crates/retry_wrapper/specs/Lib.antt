pub mod Wrappers
pub mod WrapperLaw
