-- `RampLaws`: the straight curve rises. `Promises`: each promise names one answer. `Worked`: examples.
pub mod RampLaws
pub mod Promises
mod Worked
