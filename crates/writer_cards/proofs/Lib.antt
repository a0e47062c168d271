pub mod PutLaws
pub mod TrickLaws
pub mod PlayLaws
pub mod Answers
pub mod DealLaws
pub mod EastLaws
pub mod HandLaws
pub mod SizeLaws
