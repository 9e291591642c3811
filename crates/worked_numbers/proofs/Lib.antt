-- `All`: the definitions give these numbers.
pub mod All
