-- `Lookup`: the definitions. `Promises`: what the call promises of them. `Demand`: what is demanded of a nondecreasing
-- table. `Inside`: preconditions.
pub mod Lookup
pub mod Promises
pub mod Demand
pub mod Inside
