mod Quiet
mod Said
