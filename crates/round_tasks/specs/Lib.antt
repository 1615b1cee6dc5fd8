pub mod Changes
pub mod Cutting
