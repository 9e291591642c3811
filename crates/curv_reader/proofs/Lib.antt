-- `Promises`: how the promise is met, and that it names one answer and one later state. `Worked`: examples.
pub mod Promises
pub mod Worked
