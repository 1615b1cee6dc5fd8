pub mod PairRoom
