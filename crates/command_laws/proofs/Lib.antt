mod Rows
mod Uses
mod Walking
mod Commands
mod Taken
