pub mod Recipe
