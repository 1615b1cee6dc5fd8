pub mod DoubletonEquation
