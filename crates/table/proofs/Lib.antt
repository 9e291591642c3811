-- Laws that every crate builds on. `Refusals` and `Answers`: a number and a value tell one answer. `Order`: what keeps
-- a table nondecreasing. `Fill`: buffers filled entry by entry. `Quotient`: rounding up. `Runs`: runs of equal entries.
-- `Choice` and `Sizes`: what tests tell.
pub mod Choice
pub mod Sizes
pub mod Refusals
pub mod Answers
pub mod Order
pub mod Fill
pub mod Quotient
pub mod Runs
