-- `Least`: the definition. `Promises`: what the call promises of it. `Demand`: demand 3, whole. `Inside`:
-- preconditions.
pub mod Least
pub mod Promises
pub mod Inside
pub mod Demand
