pub mod FillLaws
pub mod NameLaws
