mod Pieces
mod SizedExprs
mod SizedSimples
mod SizedBodies
mod DeclaredLocals
mod Adding
mod Operands
