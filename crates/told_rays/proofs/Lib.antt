pub mod FirstStop
pub mod SameNumbers
pub mod OneRay
