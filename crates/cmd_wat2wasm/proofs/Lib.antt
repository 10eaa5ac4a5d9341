pub mod Once
mod Checked
