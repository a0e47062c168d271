pub mod Laws
pub mod MoveLaws
pub mod RowType
