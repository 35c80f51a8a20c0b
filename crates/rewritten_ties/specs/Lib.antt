pub mod Taken
pub mod TiesLaw
pub mod KnownLaw
pub mod RootLaw
pub mod StartLaw
