-- `Rows`: the definitions. `Promises`: what the calls promise of them.
pub mod Rows
pub mod Promises
