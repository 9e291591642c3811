-- `Sum`: the laws that both lookups share, over the divisor. `Halves`: the 16-bit one without a division. `LookupLaws`:
-- what follows for it. `Promises`: the promise names one answer. `Weigh` and `Steps`: the arithmetic of these.
pub mod Weigh
pub mod Steps
pub mod Sum
pub mod Halves
pub mod LookupLaws
pub mod Promises
