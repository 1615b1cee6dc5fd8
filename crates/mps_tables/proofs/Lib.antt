mod Columns
mod Firsts
mod Growing
mod Places
