-- `LeastLaws`: the least input for any lookup that never falls. `Tables`, `Bracket` and `Cell`: how it is found in a
-- table. `Promises`: the promise names one answer. `Demand`: demand 3. `Worked`: examples.
pub mod LeastLaws
pub mod Tables
pub mod Bracket
pub mod Cell
pub mod Promises
pub mod Demand
pub mod Worked
