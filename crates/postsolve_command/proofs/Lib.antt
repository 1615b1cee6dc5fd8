mod Columns
mod Rooms
mod Brought
mod AnyWidth
