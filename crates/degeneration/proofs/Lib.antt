-- `Runs`: what is taken from an end is the run there. `Promises`: the promise names one answer. `Worked`: the verdict
-- at its edges.
mod Runs
pub mod Promises
mod Worked
