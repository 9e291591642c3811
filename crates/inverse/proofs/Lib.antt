-- `Bisection`: the search, and that every probe is a position. `Whole`: the inverse put together, and what a hit is
-- worth. `Promises`: the promise names one answer. `Worked`: corners.
pub mod Bisection
pub mod Whole
pub mod Promises
mod Worked
