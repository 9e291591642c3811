-- `Runs`: the runs at either end. `Start`: where the search begins.
pub mod Runs
pub mod Start
