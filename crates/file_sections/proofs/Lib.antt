pub mod SectionLaws
pub mod WayLaws
