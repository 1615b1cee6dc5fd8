pub mod VerdictText
pub mod GivenTexts
pub mod RayVerdictText
pub mod JudgedRay
pub mod Checked
