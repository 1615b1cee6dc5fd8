pub mod Earlier
pub mod FirstFaults
pub mod FormNumbers
