-- What scripts that are read from texts write.
mod Hex
pub mod Lines
mod Examples
