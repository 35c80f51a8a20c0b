pub mod Uses
pub mod Kinds
pub mod Results
pub mod Firsts
pub mod Indexed
pub mod Places
