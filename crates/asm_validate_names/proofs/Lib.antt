pub mod Found
pub mod Order
pub mod Shapes
pub mod StatementRows
pub mod ExpressionRows
pub mod Rest
pub mod Members
pub mod Bindings
