-- `Steps`: what the violations are, and the walk that counts them. `Promises`: the promise names one answer.
-- `Twentieth`: the Rust's f64 test is 20v < n. `Worked`: the verdict at its edges.
pub mod Steps
pub mod Promises
pub mod Twentieth
mod Worked
