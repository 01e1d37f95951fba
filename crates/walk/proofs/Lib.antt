-- What the proof of `plain` goes by, and what is used of it in crates above.
pub mod Goings
pub mod Rows
pub mod Steps
pub mod Literals
pub mod Loop
pub mod Dead
