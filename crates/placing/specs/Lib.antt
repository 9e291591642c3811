-- `Place`: where a drive and a density are drawn. `Reach`: how low and how high a curve goes over a span of drives.
-- `Falls`: where it falls.
pub mod Place
pub mod Reach
pub mod Falls
