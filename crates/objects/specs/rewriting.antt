pub mod Attempt
pub mod Events
pub mod Relinking
pub mod Rewriting
