-- `Ramp`: the straight curve. `Promises`: what the calls promise.
pub mod Ramp
pub mod Promises
