-- `Passed`: the definition. `Promises`: what the call promises of it.
pub mod Passed
pub mod Promises
