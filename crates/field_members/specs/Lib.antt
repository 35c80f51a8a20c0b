pub mod Names
pub mod Fields
pub mod Accessors
pub mod FieldsLaw
pub mod AccessorsLaw
