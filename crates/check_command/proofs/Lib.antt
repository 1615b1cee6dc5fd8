mod Said
mod Exactly
mod Proved
mod Told
mod RayProved
mod RayTold
