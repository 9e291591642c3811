-- `Records`: a granted nudge as one number, and what a list of them does to a table.
pub mod Records
