pub mod Table
pub mod Mapping
pub mod Ordering
pub mod Lines
pub mod Marks
pub mod Chars
pub mod Names
