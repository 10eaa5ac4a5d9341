pub mod GlobalLines
