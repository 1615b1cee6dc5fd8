pub mod DoubletonEquation
pub mod FreeColumnSingleton
pub mod SlackColumnSingleton
