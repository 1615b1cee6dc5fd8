pub mod ComingBack
pub mod WayBack
pub mod Texts
pub mod Laws
