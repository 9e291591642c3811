-- `House`: the curve's rule. `Promises`: what the two calls promise of it.
pub mod House
pub mod Promises
