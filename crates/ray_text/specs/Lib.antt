pub mod RayLines
pub mod Given
pub mod Faults
pub mod Reading
pub mod RayText
pub mod Holding
pub mod Starting
pub mod GivenTo
