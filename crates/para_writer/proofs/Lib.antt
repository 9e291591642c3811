-- `Complement`: two's complement of what is written. `Written`: the bytes that are written. `Promises`: how the promise
-- is met, and that it names one answer and one later state. `RoundTrip`: what is written reads back the same, and the
-- other way. `Worked`: examples.
pub mod Complement
pub mod Written
pub mod Promises
pub mod RoundTrip
mod Worked
