-- `Placing`: laws on where a drive and a density are drawn. `Widening`: a span's reach with one drive more. `Falling`:
-- a search for a fall.
pub mod Placing
pub mod Widening
pub mod Falling
