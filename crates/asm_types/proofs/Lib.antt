mod Examples
pub mod Order
pub mod Sound
