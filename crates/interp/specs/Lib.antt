-- `Interp`: the definitions of document 01. `Promises`: what the calls promise of them.
pub mod Interp
pub mod Promises
