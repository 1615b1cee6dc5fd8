pub mod IdOrder
pub mod FaultLaws
pub mod WordLaws
