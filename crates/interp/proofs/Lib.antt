-- `Place`: a lookup lands between two entries. `Input`: what reads as 0 to 1, and what is refused. `Ends`: finite
-- entries come out exactly at both ends. `Steps`: the bodies work out what is defined. `Verdicts`: from a call's tests
-- to its promise. `Answers`: each promise names one answer. `NoNan`: the integer table's lookup never answers a NaN.
-- `FloatNan`: when the float table's does. `Worked`: two answers that a fused product would miss.
pub mod Place
pub mod Input
pub mod Ends
pub mod Steps
pub mod Verdicts
pub mod Answers
pub mod NoNan
pub mod FloatNan
pub mod Worked
