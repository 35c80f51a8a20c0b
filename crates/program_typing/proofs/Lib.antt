pub mod Chosen
mod Firsts
mod Numbered
pub mod SameEarly
mod Tabled
pub mod Typings
pub mod Untypable
