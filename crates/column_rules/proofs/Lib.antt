pub mod SoleEntries
pub mod FreeColumnSingletons
pub mod SlackColumnSingletons
