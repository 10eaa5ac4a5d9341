pub mod Carried
pub mod Parts
pub mod Shifted
pub mod Signed
pub mod Counted
pub mod Related
pub mod Extended
pub mod Together
