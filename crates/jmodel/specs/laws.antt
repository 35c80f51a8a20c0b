pub mod MarkLaw
