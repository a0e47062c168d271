pub mod LetterLaws
pub mod HandLaws
pub mod DealLaws
