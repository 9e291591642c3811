-- `Records`: what a record says. `Replay`: a table that is another with a list of nudges done in order.
pub mod Records
pub mod Replay
