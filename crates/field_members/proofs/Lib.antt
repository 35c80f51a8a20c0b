pub mod Gets
pub mod Laid
mod Flat
mod Types
pub mod AccessorsAre
mod FieldsAre
