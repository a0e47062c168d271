pub mod PutLaws
pub mod ScanLaws
