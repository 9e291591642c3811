-- `Curve`: the curve's value and its table. `Promises`: what the calls promise of them. `Demand`: what document 02
-- asks.
pub mod Curve
pub mod Promises
pub mod Demand
