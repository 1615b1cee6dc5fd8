mod Pairs
mod Numbers
mod Places
