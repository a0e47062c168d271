pub mod FindLaws
pub mod IndexLaws
pub mod ListLaws
pub mod PartLaws
pub mod TornLaws
pub mod Utf8Laws
pub mod ApartLaws
