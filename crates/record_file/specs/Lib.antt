pub mod Words
pub mod Fields
pub mod RecordText
pub mod Onto
