pub mod Admitting
