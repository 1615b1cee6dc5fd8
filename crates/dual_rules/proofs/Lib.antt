pub mod Merging
pub mod FootprintSets
pub mod Orders
pub mod Pairs
pub mod Remaining
pub mod SidesOfBoth
pub mod KeptFootprints
