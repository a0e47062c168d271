pub mod Answers
pub mod RowLaws
pub mod RunLaws
