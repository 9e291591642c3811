-- The promise names one answer and one later state of the buffer, for refused calls too; and what each entry is.
-- Assumes nothing.
use mathlib.Core.Path.{◌≡◌, ◌∙◌, sym}
use mathlib.Core.List.{List}
use Prim.Native.Nat.{ℕ, ◌<◌}
use lib.ListN.{get_or}
use Rattle.std.specs.Prelude.{Result}
use Rattle.table.specs.declared.Refusal.{Refusal}
use Rattle.table.proofs.Answers.{same_done}
use Rattle.table.proofs.Fill.{get_or_tabulated}
use Rattle.inverse.specs.Inverse.{inverted}
use Rattle.invert.specs.Invert.{asked, inverted_at, inverted_of}
use Rattle.invert.specs.Promises.{InvertPromise}

pub invert_one : {t out out' out'' : List ℕ} {r s : Result (Unit {0}) Refusal} → InvertPromise t out r out'
    → InvertPromise t out s out''
    → (r ≡ s) × (out' ≡ out'')
invert_one {r = r} {s = s} a b = (same_done r s (a.number ∙ sym b.number), a.after ∙ sym b.after)

-- Entry by entry a table inverted is the inverse of what that entry asks. [invert::invert_lut]
pub inverted_entry : (t : List ℕ) (m i : ℕ) → i < m → get_or (inverted_of t m) i 0 ≡ inverted t (asked m i)
inverted_entry t m i h = get_or_tabulated (inverted_at t m) m i 0 h
