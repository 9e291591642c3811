-- `Cut`: floor and ceil. `Size`: the lesser of two, and |x|. `Nearest`: the nearest f32. Each file has the promises of
-- its functions too.
pub mod Cut
pub mod Size
pub mod Nearest
