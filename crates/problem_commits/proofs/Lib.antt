pub mod Lefts
pub mod Changed
pub mod Noted
pub mod Committing
pub mod GivingBack
pub mod Telling
