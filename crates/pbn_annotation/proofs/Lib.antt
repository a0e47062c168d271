pub mod AnnotationLaws
pub mod NoteLaws
pub mod Answers
