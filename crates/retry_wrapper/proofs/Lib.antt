pub mod Gets
pub mod Loop
mod Meant
mod Swapped
pub mod WrapperIs
mod Loads
mod Fits
