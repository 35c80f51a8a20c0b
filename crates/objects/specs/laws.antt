pub mod Law
pub mod LinkingLaw
pub mod RegionLaw
pub mod SerialLaw
pub mod TypingLaw
