pub mod First
mod Places
mod OwnTypes
pub mod KnownTables
pub mod KnownExprs
pub mod KnownStmts
pub mod KnownPrograms
