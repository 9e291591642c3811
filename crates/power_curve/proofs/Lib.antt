-- `Sizes`: what is added before the last division. `Bound`: document 02's bound, over variables. `Values`: the laws of
-- one value. `Tags`: which entries a gamma tag may have. `Promises`: each promise names one answer. `Demand`: what
-- document 02 asks holds. `Worked`: examples.
pub mod Sizes
pub mod Bound
pub mod Values
pub mod Tags
pub mod Promises
pub mod Demand
mod Worked
