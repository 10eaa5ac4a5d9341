pub mod LeftModules
pub mod NewDeclared
pub mod Using
