-- A table that is another with a list of nudges done in order: what one more nudge makes of it, and one less. Over any
-- list of records. Assumes nothing.
use mathlib.Core.Path.{◌≡◌, ◌∙◌, sym, ap, refl, subst}
use mathlib.Core.Logic.{⊎_elim}
use mathlib.Core.Bool.{true}
use mathlib.Core.List.{List, [], ◌∷◌, ◌++◌}
use Prim.Native.Nat.{ℕ, ◌+◌, ◌-◌, ◌≤◌, ◌<◌}
use native.Mathlib.Nat.{eq-zero-or-pos}
use native.Mathlib.Omega.{arith}
use borrow.Author.Tests.{le-leb}
use lib.ListN.{length, get_or, set, length-set}
use lib.Seq.{set-set, set-get_or, get_or-set_same, get_or-set_other}
use lib.Dec.{leb}
use Rattle.table.specs.Order.{nondecreasing, not_below_left, not_above_right, suits}
use Rattle.table.proofs.Choice.{below?}
use Rattle.table.proofs.Order.{test_fact, set_test, left_is, left_none, right_is, right_none}
use Rattle.nudge_log.specs.Records.{new_of, old_of, index_of, nudged, taken_back, all_nudged, goes_with}
use Rattle.nudge_log.proofs.Records.{goes_same}

-- w is the record of a nudge that may be granted at the table t
pub record Grantable (t : List ℕ) (w : ℕ) : Type 0 where
  pub index : index_of w < length t
  pub was : old_of w ≡ get_or t (index_of w) 0
  pub fitting : suits t (index_of w) (new_of w) ≡ true

-- each of a list of nudges may be granted at the table that those before it made
unfoldable EachGrantable : List ℕ → List ℕ → Type 0
EachGrantable t [] = Unit {0}
EachGrantable t (w ∷ ws) = Grantable t w × EachGrantable (nudged t w) ws

nudged_last : (t ws : List ℕ) (w : ℕ) → all_nudged t (ws ++ (w ∷ [])) ≡ nudged (all_nudged t ws) w
unfolding all_nudged
nudged_last t [] w = refl
nudged_last t (v ∷ ws) w = nudged_last (nudged t v) ws w

each_more : (t ws : List ℕ) (w : ℕ) → EachGrantable t ws → Grantable (all_nudged t ws) w →
    EachGrantable t (ws ++ (w ∷ []))
unfolding all_nudged EachGrantable
each_more t [] w g h = (h, tt)
each_more t (v ∷ ws) w g h = (g.0, each_more (nudged t v) ws w g.1 h)

each_less : (t ws : List ℕ) (w : ℕ) → EachGrantable t (ws ++ (w ∷ [])) →
    EachGrantable t ws × Grantable (all_nudged t ws) w
unfolding all_nudged EachGrantable
each_less t [] w g = (tt, g.0)
each_less t (v ∷ ws) w g = let l = each_less (nudged t v) ws w g.1 in ((g.0, l.0), l.1)

-- What all of them keep is the order.
nudged_order : (t ws : List ℕ) → nondecreasing t ≡ true → EachGrantable t ws → nondecreasing (all_nudged t ws) ≡ true
unfolding all_nudged EachGrantable
nudged_order t [] r g = r
nudged_order t (w ∷ ws) r g =
    let h = g.0 in
    nudged_order (nudged t w) ws (set_test t (index_of w) (new_of w) (test_fact t r) h.index h.fitting) g.1

-- An entry's neighbours are the same whatever the entry is,
left_same : (t : List ℕ) (i x y : ℕ) → not_below_left (set t i x) i y ≡ not_below_left t i y
left_same t i x y =
    ⊎_elim
    (λ (e : i ≡ 0). left_none (set t i x) i y e ∙ sym (left_none t i y e))
    (λ (p : 0 < i).
    left_is (set t i x) i y p
    ∙ ap (λ (n : ℕ). leb n y) (get_or-set_other t i (i - 1) x 0 (λ (q : i - 1 ≡ i). omega arith))
    ∙ sym (left_is t i y p))
    (eq-zero-or-pos i)

right_same : (t : List ℕ) (i x y : ℕ) → not_above_right (set t i x) i y ≡ not_above_right t i y
right_same t i x y =
    ⊎_elim
    (λ (p : i + 1 < length t).
    right_is (set t i x) i y (rw length-set p)
    ∙ ap (leb y) (get_or-set_other t i (i + 1) x 0 (λ (q : i + 1 ≡ i). omega arith))
    ∙ sym (right_is t i y p))
    (λ (p : length t ≤ i + 1). right_none (set t i x) i y (rw length-set p) ∙ sym (right_none t i y p))
    (below? (i + 1) (length t))

-- and in a nondecreasing table it fits between them.
own_left : (t : List ℕ) (i : ℕ) → nondecreasing t ≡ true → i < length t → not_below_left t i (get_or t i 0) ≡ true
own_left t i r h =
    ⊎_elim
    (λ (e : i ≡ 0). left_none t i (get_or t i 0) e)
    (λ (p : 0 < i). left_is t i (get_or t i 0) p ∙ le-leb _ _ (test_fact t r (i - 1) i (omega arith) h))
    (eq-zero-or-pos i)

own_right : (t : List ℕ) (i : ℕ) → nondecreasing t ≡ true → i < length t → not_above_right t i (get_or t i 0) ≡ true
own_right t i r h =
    ⊎_elim
    (λ (p : i + 1 < length t). right_is t i (get_or t i 0) p ∙ le-leb _ _ (test_fact t r i (i + 1) (omega arith) p))
    (λ (p : length t ≤ i + 1). right_none t i (get_or t i 0) p)
    (below? (i + 1) (length t))

-- So the record of a nudge that was just done goes with the table,
nudged_goes : (t : List ℕ) (w : ℕ) → nondecreasing t ≡ true → Grantable t w → goes_with (nudged t w) w ≡ true
nudged_goes t w r g =
    let i = index_of w in
    let s : suits t i (old_of w) ≡ true = rw g.was (simp (own_left t i r g.index, own_right t i r g.index)) in
    goes_same (set t i (new_of w)) w (rw length-set g.index) (get_or-set_same t i (new_of w) 0 g.index)
    ∙ simp (left_same t i (new_of w) (old_of w), right_same t i (new_of w) (old_of w)) s

-- and taking it back gives the table before it.
taken_back_lem : (t : List ℕ) (w : ℕ) → Grantable t w → taken_back (nudged t w) w ≡ t
taken_back_lem t w g = set-set t (index_of w) (new_of w) (old_of w) ∙ rw g.was (set-get_or t (index_of w) 0)

-- The table t is the table o with the nudges ws done in order: o is nondecreasing, and each nudge might be granted in
-- its turn. [nudge_log]
pub record Kept (o t ws : List ℕ) : Type 0 where
  order : nondecreasing o ≡ true
  each : EachGrantable o ws
  pub comes : all_nudged o ws ≡ t

-- A nondecreasing table is itself with no nudge done. [nudge_log]
pub kept_none : {o : List ℕ} → nondecreasing o ≡ true → Kept o o []
unfolding all_nudged EachGrantable
kept_none r = record { order = r; each = tt; comes = refl }

module _ {o t ws : List ℕ} (k : Kept o t ws) where
  -- The table with its nudges done is nondecreasing. [nudge_log]
  pub kept_order : nondecreasing t ≡ true
  kept_order = subst (λ (l : List ℕ). nondecreasing l ≡ true) k.comes (nudged_order o ws k.order k.each)

  -- One more nudge that might be granted may be done at the end. [nudge_log]
  pub kept_more : (w : ℕ) → Grantable t w → Kept o (nudged t w) (ws ++ (w ∷ []))
  kept_more w g = record {
    order = k.order;
    each = each_more o ws w k.each (subst (λ (l : List ℕ). Grantable l w) (sym k.comes) g);
    comes = nudged_last o ws w ∙ ap (λ (l : List ℕ). nudged l w) k.comes;
  }

module _ {o t : List ℕ} (ws : List ℕ) (w : ℕ) (k : Kept o t (ws ++ (w ∷ []))) where
  before : nudged (all_nudged o ws) w ≡ t
  before = sym (nudged_last o ws w) ∙ k.comes

  -- The last nudge taken back gives the table before it. [nudge_log]
  pub kept_less : Kept o (taken_back t w) ws
  kept_less =
      let l = each_less o ws w k.each in
      record {
        order = k.order;
        each = l.0;
        comes = sym (taken_back_lem (all_nudged o ws) w l.1) ∙ ap (λ (t : List ℕ). taken_back t w) before;
      }

  -- The last nudge goes with the table, so that it can be taken back. [nudge_log]
  pub kept_goes : goes_with t w ≡ true
  kept_goes =
      let l = each_less o ws w k.each in
      subst (λ (t : List ℕ). goes_with t w ≡ true) before
      (nudged_goes (all_nudged o ws) w (nudged_order o ws k.order l.0) l.1)
