pub mod FormLaw
