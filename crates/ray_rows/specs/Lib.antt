pub mod ImpliedBound
