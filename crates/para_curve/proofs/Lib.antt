-- `Promises`: how the promise is met, that it names one answer, and how the curve and the numbers read go together.
-- `NoNan`: when a field is a NaN. `Worked`: examples.
pub mod Promises
pub mod NoNan
mod Worked
