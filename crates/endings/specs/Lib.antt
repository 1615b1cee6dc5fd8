pub mod Ending
pub mod Moments
pub mod Continuity
pub mod Forms
pub mod ProgramTexts
pub mod SolutionTexts
