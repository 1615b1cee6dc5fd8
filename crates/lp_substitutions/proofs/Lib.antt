pub mod DoubletonEquation
pub mod DoubletonEquationPairs
pub mod FreeColumnSingleton
pub mod SlackColumnSingleton
