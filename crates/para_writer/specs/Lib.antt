-- `Written`: what is written for a type and its numbers. `Promises`: what the call promises.
pub mod Written
pub mod Promises
