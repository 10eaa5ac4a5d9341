pub mod Exported
pub mod OneMore
pub mod AddedFunction
