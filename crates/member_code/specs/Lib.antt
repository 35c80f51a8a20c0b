pub mod Growing
pub mod Names
pub mod Instrs
pub mod Coding
pub mod Meaning
