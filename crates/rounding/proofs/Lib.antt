-- `Shift`, `Cut`, `Size`, `Narrow`, `Fixed`: what the functions' proofs cite, and the laws that callers use. `Answers`:
-- each promise names one answer. `NoNan`: when an answer is a NaN.
pub mod Shift
pub mod Cut
pub mod Size
pub mod Narrow
pub mod Fixed
pub mod Answers
pub mod NoNan
