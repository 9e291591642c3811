-- `Start`: the steps before the search.
pub mod Start
