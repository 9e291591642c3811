-- `Promises`: what a reading promises.
pub mod Promises
