-- The row that a module is refused for stands at one of its nodes.
pub mod Below
pub mod NamesBelow
pub mod TypesBelow
pub mod LimitsBelow
pub mod Within
