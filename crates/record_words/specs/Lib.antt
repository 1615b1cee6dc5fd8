pub mod Rules
pub mod Undos
pub mod Results
