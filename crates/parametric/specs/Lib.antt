-- `Unify` and `Compare`: the definitions. `Promises`: what the calls promise of them. `Counts`: document 01's sentences
-- on every unified curve.
pub mod Unify
pub mod Compare
pub mod Promises
pub mod Counts
