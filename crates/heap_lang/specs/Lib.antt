pub mod Numbers
pub mod Heap
