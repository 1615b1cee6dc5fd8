pub mod Words
pub mod Faults
pub mod Ratios
pub mod Ends
pub mod Lists
pub mod Views
pub mod Fields
