pub mod DeclarationPuts
pub mod Ends
pub mod ExprPuts
pub mod ModulePuts
pub mod Puts
pub mod StmtPuts
