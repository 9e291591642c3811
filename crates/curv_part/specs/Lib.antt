-- `Promises`: which part of a tag its entries are, and what `entry_bytes` promises of it.
pub mod Promises
