pub mod ShortLists
pub mod Near
pub mod Parts
pub mod Alike
pub mod Places
pub mod Choosing
