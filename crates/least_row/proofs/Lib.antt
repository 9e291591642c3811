-- `Abreast`: four searches side by side, and the row written by them. `Promises`: the promise names one answer, and a
-- row holds the single call's. `Worked`: examples.
mod Abreast
pub mod Promises
mod Worked
