pub mod Rooms
pub mod Reading
pub mod Bridge
