pub mod Answers
pub mod PieceLaws
