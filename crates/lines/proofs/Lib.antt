-- What is proved of lines.
pub mod Fragments
