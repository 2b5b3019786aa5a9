mod CalledSpecs
mod Collected
mod FoundCallees
mod GivenPairs
