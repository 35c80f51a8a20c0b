pub mod Names
pub mod Helper
pub mod HelperLaw
