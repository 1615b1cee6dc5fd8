pub mod Given
pub mod VerdictText
pub mod Verifying
