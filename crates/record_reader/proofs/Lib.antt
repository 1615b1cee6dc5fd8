pub mod NameLaws
pub mod KeptLaws
