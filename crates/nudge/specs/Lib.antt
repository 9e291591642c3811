-- `Promises`: what a nudge promises. `Calls`: a sitting, call by call. `Demand`: what is demanded of every sitting.
pub mod Promises
pub mod Calls
pub mod Demand
