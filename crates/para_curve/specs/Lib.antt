-- `Promises`: what reading a tag as a curve promises.
pub mod Promises
