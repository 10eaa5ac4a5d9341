pub mod Numbers
pub mod Code
pub mod Linked
pub mod Trees
pub mod Laws
