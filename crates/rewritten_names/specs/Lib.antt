pub mod Heads
pub mod NamesLaw
pub mod LeadsLaw
