-- The definitions that the promises of all crates are written in.
pub mod Choice
pub mod Refusals
pub mod Answers
pub mod Sizes
pub mod Order
pub mod Quotient
pub mod Fill
pub mod Runs
pub mod Turns
