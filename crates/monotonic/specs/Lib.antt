-- `Steps`: the violations, and how many are few enough. `Promises`: what the call promises of them.
pub mod Steps
pub mod Promises
