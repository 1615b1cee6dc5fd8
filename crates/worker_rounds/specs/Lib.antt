pub mod Workers
pub mod Done
pub mod Marking
pub mod Looks
pub use Rattle.book_turns.specs.Turns
