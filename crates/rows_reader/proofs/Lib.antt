pub mod Found
pub mod ReaderLaws
