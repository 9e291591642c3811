-- `Written`: what is written for a table. `Promises`: what the call promises.
pub mod Written
pub mod Promises
