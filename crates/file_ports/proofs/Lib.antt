mod Places
mod Differ
