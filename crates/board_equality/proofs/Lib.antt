pub mod EqualityLaws
pub mod EqualityMeaning
