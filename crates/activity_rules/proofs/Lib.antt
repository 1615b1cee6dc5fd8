pub mod Looks
pub mod Tightened
pub mod InfiniteEnds
pub mod Cursors
pub mod Slackness
