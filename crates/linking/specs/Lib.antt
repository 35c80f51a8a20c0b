pub mod ContextCalls
pub mod Numbering
pub mod Entries
pub mod Rewritten
pub mod Bases
pub mod Bodies
pub mod Pcs
pub mod Relinking
