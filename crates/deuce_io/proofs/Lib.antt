pub mod Contents
pub mod Ends
pub mod Items
pub mod Listed
pub mod Shows
pub mod Rising
