-- Nodes, clauses and names of a module, counted in its tokens.
pub mod Exprs
pub mod Stmts
pub mod Modules
pub mod Places
pub mod Weights
pub mod Names
