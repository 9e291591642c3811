-- `Questions`: the questions of a whole table inverted. `Promises`: the promise names one answer and one later state.
-- `Worked`: an example.
pub mod Questions
pub mod Promises
mod Worked
