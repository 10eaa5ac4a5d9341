pub mod Views
pub mod Inside
pub mod Forms
