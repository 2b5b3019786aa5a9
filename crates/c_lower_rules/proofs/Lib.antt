mod Pieces
mod Uses
mod Operators
mod Exprs
mod Simples
mod Bodies
mod Different
pub mod Structures
mod Marked
mod Procedures
mod Locals
mod Flows
pub mod WellFormed
pub mod GoodTokens
pub mod GoodWords
pub mod Steps
pub mod Parts
pub mod Expressions
pub mod Statements
pub mod Files
