pub mod Part
pub mod Rewritten
pub mod RewrittenClasses
pub mod Asked
