-- `Rule`: what follows from the rule, for any table that meets it. `Tested`: one test of a whole table, which gives the
-- rule at each entry. `Promises`: each promise names one answer and one later state.
pub mod Rule
pub mod Tested
pub mod Promises
