pub mod linking
pub mod semantics
pub mod typing
pub mod rewriting
pub mod history
pub mod laws
