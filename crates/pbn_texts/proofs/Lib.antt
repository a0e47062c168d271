pub mod TextLaws
pub mod NameLaws
pub mod LayoutLaws
pub mod CallLaws
pub mod RawLaws
pub mod RowLaws
