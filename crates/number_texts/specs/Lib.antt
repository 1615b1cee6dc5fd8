pub mod Written
pub mod Form
pub mod Mantissas
pub mod Read
pub mod Views
pub mod Grammar
pub mod Shorts
pub mod Reach
