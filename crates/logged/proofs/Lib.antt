-- `Cases`: each case of the promise, for the functions' proofs. `Promises`: the promise names one answer and one later
-- state, and what it tells by the answer. `Past`: the places past the count are no part of the log. `Sitting`: document
-- 02's rule, and demand 3 with take-backs. `Worked`: examples.
pub mod Cases
pub mod Promises
pub mod Past
pub mod Sitting
mod Worked
