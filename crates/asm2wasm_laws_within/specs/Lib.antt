pub mod Uses
pub mod Within
pub mod Laws
