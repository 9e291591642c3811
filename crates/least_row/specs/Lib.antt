-- `Promises`: what the call promises.
pub mod Promises
