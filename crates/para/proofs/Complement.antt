-- Two's complement: a pattern's number, as the machine has it. Assumes nothing.
use mathlib.Core.Path.{◌≡◌, ◌∙◌, refl, ap}
use mathlib.Core.Bool.{Bool, true, false}
use Prim.Native.Nat.{ℕ, suc, ◌-◌, ◌<◌}
use borrow.Author.Tests.{lt-ltb}
use lib.Dec.{ltb}
use lib.IntN.{ℤ, pos, negsuc}
use lib.Signed.{mag}
use mir.Syntax.{w32}
use mir.Val.{sel, to_z, of_z}
use mir.ValLaws.{to_z-of_z, to_z-Fits}
use Rattle.table.specs.Choice.{pick}
use Rattle.para.specs.Signed.{signed_of}

pick_sel : (t : Bool) (y z : ℤ) → pick t y z ≡ sel t y z
pick_sel true y z = refl
pick_sel false y z = refl

pub signed_machine : (x : ℕ) → x < 0x1_0000_0000 → signed_of x ≡ to_z w32 x
unfolding signed_of
signed_machine x h =
    rw (lt-ltb x 0x1_0000_0000 h) (pick_sel (ltb x 0x8000_0000) (pos x) (negsuc (0x1_0000_0000 - suc x)))

-- it is one that 32 bits hold
pub signed_wide : (x : ℕ) → x < 0x1_0000_0000 → mag (signed_of x) < 0x8000_0000
signed_wide x h = rw (signed_machine x h) (to_z-Fits w32 x (record { fits = h })).sfits

-- A signed number in the machine's hands is the number that was handed over: one that a call answered, and one that a
-- call was given.
pub held : {z y : ℤ} → mag z < 0x8000_0000 → z ≡ y → to_z w32 (of_z w32 z) ≡ y
held {z} h e = to_z-of_z w32 z (record { sfits = h }) ∙ e

pub passed : {A : Type 0} (make : ℤ → A) {z : ℤ} {x : A} → mag z < 0x8000_0000
    → x ≡ make (to_z w32 (of_z w32 z)) → x ≡ make z
passed make h e = e ∙ ap make (held h refl)
