-- `Cells`: the two entries and the line through them. `Clamp`: the position on it as 16 bits.
pub mod Clamp
pub mod Cells
