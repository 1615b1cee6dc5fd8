pub mod Edited
pub mod MadeProblems
pub mod WrittenRows
pub mod Renumbering
