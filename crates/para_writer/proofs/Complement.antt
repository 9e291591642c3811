-- Two's complement: a number's pattern, as the machine has it, and how number and pattern each give the other. Assumes
-- nothing.
use mathlib.Core.Path.{◌≡◌, ◌∙◌, refl, ap}
use mathlib.Core.List.{List, [], ◌∷◌, map}
use Prim.Native.Nat.{ℕ, ◌<◌}
use lib.IntN.{ℤ, pos, negsuc}
use lib.Signed.{mag}
use mir.Syntax.{w32}
use mir.Val.{to_z, of_z}
use mir.ValLaws.{of_z_fits, to_z-of_z, of_z-to_z}
use Rattle.para.specs.Signed.{signed_of}
use Rattle.para.proofs.Complement.{signed_machine}
use Rattle.para_writer.specs.Written.{pattern_of}

pub pattern_machine : (z : ℤ) → pattern_of z ≡ of_z w32 z
unfolding pattern_of
pattern_machine (pos n) = refl
pattern_machine (negsuc n) = refl

-- and the patterns of some numbers
pub patterns_machine : (l : List ℤ) → map (of_z w32) l ≡ map pattern_of l
patterns_machine [] = refl
patterns_machine (z ∷ l) = rw (pattern_machine z, patterns_machine l) refl

-- a number that 32 bits hold has a pattern of 32 bits, and is the one that it stands for
pub pattern_below : (z : ℤ) → mag z < 0x8000_0000 → pattern_of z < 0x1_0000_0000
pattern_below z h = rw (pattern_machine z) (of_z_fits w32 z (record { sfits = h })).fits

-- The pattern of a signed number stands for that number, if it is below 2^31 without its sign. [para::read_para]
pub signed_pattern : (z : ℤ) → mag z < 0x8000_0000 → signed_of (pattern_of z) ≡ z
signed_pattern z h =
    signed_machine (pattern_of z) (pattern_below z h)
    ∙ ap (to_z w32) (pattern_machine z)
    ∙ to_z-of_z w32 z (record { sfits = h })

-- 32 bits are the pattern of the signed number that they stand for. [para::read_para]
pub pattern_signed : (x : ℕ) → x < 0x1_0000_0000 → pattern_of (signed_of x) ≡ x
pattern_signed x h =
    pattern_machine (signed_of x) ∙ ap (of_z w32) (signed_machine x h) ∙ of_z-to_z w32 x (record { fits = h })
