mod Names
mod Rows
mod Kept
