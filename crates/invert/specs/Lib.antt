-- `Invert`: the definition of a whole table inverted. `Promises`: what the call promises of it.
pub mod Invert
pub mod Promises
