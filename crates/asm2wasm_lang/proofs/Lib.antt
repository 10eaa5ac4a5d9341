mod Lengths
mod Entries
