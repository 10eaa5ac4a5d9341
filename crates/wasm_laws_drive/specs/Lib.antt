pub mod Drive
pub mod Equations
pub mod Laws
pub mod Contexts
pub mod ContextLaws
pub mod Steps
