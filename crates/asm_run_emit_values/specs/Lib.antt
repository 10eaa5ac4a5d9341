pub mod Seats
pub mod Singles
pub mod Pieces
