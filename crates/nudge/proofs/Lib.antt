-- `Promises`: the promise names one answer. `Sitting`: what holds throughout a sitting. `Worked`: examples.
pub mod Promises
pub mod Sitting
mod Worked
