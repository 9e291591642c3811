-- `Promises`: which bytes the part has, how the promise is met, and that it names one part. `Worked`: examples.
pub mod Promises
mod Worked
