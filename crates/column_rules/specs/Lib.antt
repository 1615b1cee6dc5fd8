pub mod SoleEntries
pub mod SlackColumnSingletons
pub use Rattle.column_laws.specs.FreeColumnSingleton
pub use Rattle.column_laws.specs.SlackColumnSingleton
