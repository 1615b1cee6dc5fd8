pub mod SoleEntry
pub mod FreeColumnSingleton
pub mod SlackColumnSingleton
