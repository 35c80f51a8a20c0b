pub mod Steps
pub mod Texts
pub mod Keys
pub mod HeadLaws
pub mod MemberLaws
pub mod DistinctLaws
pub mod ClassLaws
