-- Laws on floats that the kit lacks. `Value`: one value for each number. `Operations`: an operation is one rounding.
-- `Zero`: arithmetic with zeros. `Closest` and `Units`: a rounding's quotient, bit pattern and error. `Range`: numbers
-- from 0 to a bound. `Tests`: what a program's tests and constants say. `NoNan`: where no NaN arises, and when a
-- quotient is one.
pub mod Tests
pub mod Value
pub mod Operations
pub mod Zero
pub mod Closest
pub mod Units
pub mod Range
pub mod NoNan
