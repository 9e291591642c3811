-- Bytes stored one after the other: what a buffer then begins with, and runs of stores joined. Assumes nothing.
use mathlib.Core.Path.{◌≡◌, ◌∙◌, refl, ap}
use mathlib.Core.List.{List, ◌++◌, append_assoc}
use Prim.Native.Nat.{ℕ, ◌+◌, ◌-◌, ◌≤◌}
use native.Mathlib.Omega.{arith}
use lib.ListN.{length, take, drop, length-append}
use lib.Seq.{sets, sets-eq, take_at, length-take-le, drop-drop}
use borrow.Rule.Slice.PartMut.{put_mid}
use Rattle.icc.specs.Bytes.{bytes32}
use Rattle.icc.specs.Opening.{opening}

-- up to m, where the last of them stands
pub take_sets : (l : List ℕ) (i : ℕ) (vs : List ℕ) (m : ℕ) → i + length vs ≡ m → m ≤ length l
    → take m (sets l i vs) ≡ take i l ++ vs
take_sets l i vs m e h =
    let long : length (take i l ++ vs) ≡ m
    = length-append (take i l) vs ∙ ap (λ (n : ℕ). n + length vs) (length-take-le i l (omega arith)) ∙ e in
    ap (take m) (sets-eq vs l i (omega arith)) ∙ take_at (take i l ++ vs) (drop (i + length vs) l) m long

-- bytes that are stored at once are stored one after the other
pub part_stored : (l : List ℕ) (i k : ℕ) (ys vs : List ℕ) → ys ≡ vs → length vs ≡ k → i + k ≤ length l
    → put_mid i (i + k - i) l ys ≡ sets l i vs
part_stored l i k ys vs e n h =
    let span : i + k - i ≡ k = omega arith in
    rw (span, e, drop-drop, sets-eq vs l i (omega arith), append_assoc, n) refl

-- a signature and the reserved bytes are stored as the opening
pub opening_stored : (l : List ℕ) (s : ℕ) → sets (sets l 0 (bytes32 s)) 4 (bytes32 0) ≡ sets l 0 (opening s)
unfolding bytes32
opening_stored l s = refl

pub take_opening : (l : List ℕ) (s : ℕ) → 8 ≤ length l → take 8 (sets l 0 (opening s)) ≡ opening s
unfolding bytes32
take_opening l s h = take_sets l 0 (opening s) 8 refl h
