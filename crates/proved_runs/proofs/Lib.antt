mod Forms
mod LeftVerified
mod OneSolve
mod OneVerify
mod SolvedBack
mod Taken
