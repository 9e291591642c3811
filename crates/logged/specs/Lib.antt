-- `State`: a table and its log. `Promises`: what each of the four calls promises. `Sitting`: calls one after the other,
-- and what is demanded of them.
pub mod State
pub mod Promises
pub mod Sitting
