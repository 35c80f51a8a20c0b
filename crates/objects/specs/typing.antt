pub mod Source
pub mod TypeOrder
pub mod Typing
