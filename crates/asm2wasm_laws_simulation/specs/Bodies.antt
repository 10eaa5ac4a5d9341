-- Statements and bodies of functions, and how their code follows them.
pub mod Followed
pub mod Laws
