mod Closed
mod Whole
mod Naming
mod Adding
mod SamePlace
mod Fitting
mod Files
mod FewFields
