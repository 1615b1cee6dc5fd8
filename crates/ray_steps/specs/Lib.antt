pub mod StepBack
pub mod Shifts
pub mod RayRoom
