mod Before
mod Made
mod PlainKept
mod Proved
mod Rays
