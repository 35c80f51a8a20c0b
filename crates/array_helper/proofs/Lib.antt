pub mod Gets
pub mod HelperIs
