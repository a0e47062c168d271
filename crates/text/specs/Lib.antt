pub mod Fault
pub mod Find
pub mod Index
pub mod Utf8
pub mod Apart
