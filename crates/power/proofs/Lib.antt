-- `Roots`: the definition is the whole root, there is one, and it rises. `Newton`: what a guess at a root keeps.
-- `Arithmetic`: what the kit lacks on powers. `Steps`: the definition turn by turn. `Kept`: how near the power is, step
-- by step. `Bounds`: a bound from above. `Rises`: the power never falls, and its ends.
pub mod Roots
pub mod Newton
pub mod Arithmetic
pub mod Steps
pub mod Kept
pub mod Bounds
pub mod Rises
