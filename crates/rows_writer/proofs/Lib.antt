pub mod ScanLaws
pub mod BeginLaws
