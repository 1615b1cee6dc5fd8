pub mod Ends
pub mod Results
pub mod Steps
pub mod Runs
pub mod Determined
pub mod Sames
pub mod OneEnd
