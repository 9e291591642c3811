-- `One`: each promise names one answer. `Refused`: what a refused answer holds. `Parts`: the part of a tag as C and
-- Rust see it.
pub mod One
pub mod Refused
pub mod Parts
