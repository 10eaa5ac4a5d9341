mod Loops
mod Scratch
mod Sections
mod Coded
