-- `Runs`: the run at each end of a table. `Promises`: what the call promises of them.
pub mod Runs
pub mod Promises
