pub mod CodeAddresses
pub mod Examples
