pub mod Marks
pub mod Within
pub mod Places
pub mod Relocated
