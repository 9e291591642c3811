-- `Paths`: a path as the system is handed it.
pub mod Paths
