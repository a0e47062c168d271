pub mod Letters
pub mod Deals
