pub mod Inserted
pub mod KeyLaws
pub mod Multiples
pub mod OnResults
pub mod Positions
pub mod Sharing
pub mod Tables
