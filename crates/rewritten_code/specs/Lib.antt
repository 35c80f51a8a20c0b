pub mod OldLaw
