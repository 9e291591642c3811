-- Each promise of `rounding` names one answer. A NaN is one value here, whatever its bits. Assumes nothing.
use mathlib.Core.Path.{◌≡◌, sym, ◌∙◌}
use Prim.Native.Nat.{ℕ}
use lib.IntN.{ℤ}
use lib.Ieee.{Float}
use Rattle.rounding.specs.Cut.{FloorPromise, CeilPromise}
use Rattle.rounding.specs.Size.{MinPromise, AbsPromise}
use Rattle.rounding.specs.Nearest.{NarrowPromise, U8Fixed8Promise, S15Fixed16Promise}

pub narrow_one : {x r s : Float} → NarrowPromise x r → NarrowPromise x s → r ≡ s
narrow_one a b = a.value ∙ sym b.value

pub u8_one : {x : ℕ} {r s : Float} → U8Fixed8Promise x r → U8Fixed8Promise x s → r ≡ s
u8_one a b = a.value ∙ sym b.value

pub s15_one : {x : ℤ} {r s : Float} → S15Fixed16Promise x r → S15Fixed16Promise x s → r ≡ s
s15_one a b = a.value ∙ sym b.value

pub min_one : {x bound r s : Float} → MinPromise x bound r → MinPromise x bound s → r ≡ s
min_one a b = a.value ∙ sym b.value

pub abs_one : {x r s : Float} → AbsPromise x r → AbsPromise x s → r ≡ s
abs_one a b = a.value ∙ sym b.value

-- Two floors of one number are equal. [rounding]
pub floor_one : {x : Float} {r s : ℕ} → FloorPromise x r → FloorPromise x s → r ≡ s
floor_one a b = a.value ∙ sym b.value

-- Two ceils of one number are equal. [rounding]
pub ceil_one : {x : Float} {r s : ℕ} → CeilPromise x r → CeilPromise x s → r ≡ s
ceil_one a b = a.value ∙ sym b.value
