pub mod Said
pub mod Judged
pub mod Making
