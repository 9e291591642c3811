-- How long a byte and a title are in XML: a title has at most 60 characters, and each takes at most five bytes, which
-- `&` takes. Assumes nothing.
use mathlib.Core.Path.{◌≡◌, ◌∙◌, refl, sym}
use mathlib.Core.Logic.{◌⊎◌, inl, inr, ⊎_elim}
use mathlib.Core.Bool.{Bool, true, false}
use mathlib.Core.List.{List, [], ◌∷◌}
use Prim.Native.Nat.{ℕ, ◌+◌, ◌*◌, ◌≤◌, ◌<◌}
use native.Mathlib.Omega.{arith}
use borrow.Author.Tests.{lt-ltb, le-ltb, le-leb, lt-leb, leb-true, eq-eqb, ne_eqb}
use lib.ListN.{length}
use lib.Dec.{ltb, leb, eqb}
use Rattle.table.specs.Choice.{pick, both}
use Rattle.table.proofs.Choice.{never, both_left, both_right, below?, same?}
use Rattle.picture.specs.declared.title.Next.{Next}
use Rattle.picture.specs.Text.{escaped_width, escaped_length}
use Rattle.picture.specs.Title.{more_after, tails, after_lead, after_first, after_tail, after_edge, after, after_all}
use Rattle.picture.specs.Title.{is_whole, begins, characters_in, is_title, is_shown}

pub width_and : (b : ℕ) → b ≡ 38 → escaped_width b ≡ 5
unfolding escaped_width
width_and b e = simp (eq-eqb b 38 e)

pub width_less : (b : ℕ) → b ≡ 60 → escaped_width b ≡ 4
unfolding escaped_width
width_less b e = rw e refl

pub width_more : (b : ℕ) → b ≡ 62 → escaped_width b ≡ 4
unfolding escaped_width
width_more b e = rw e refl

pub width_plain : (b : ℕ) → (b ≡ 38 → ⊥) → (b ≡ 60 → ⊥) → (b ≡ 62 → ⊥) → escaped_width b ≡ 1
unfolding escaped_width
width_plain b f g h = simp (ne_eqb b 38 f, ne_eqb b 60 g, ne_eqb b 62 h)

-- a number that is one of two is within a bound of both
pick_upto : (t : Bool) (a b m : ℕ) → a ≤ m → b ≤ m → pick t a b ≤ m
pick_upto true a b m p q = p
pick_upto false a b m p q = q

width_few : (b : ℕ) → escaped_width b ≤ 5
unfolding escaped_width
width_few b =
    pick_upto (eqb b 38) 5 _ 5 (omega arith)
    (pick_upto (eqb b 60) 4 _ 5 (omega arith) (pick_upto (eqb b 62) 4 1 5 (omega arith) (omega arith)))

width_some : (b : ℕ) → 1 ≤ escaped_width b
unfolding escaped_width
width_some b =
    from_pick (eqb b 38) 5 _ (omega arith)
    (from_pick (eqb b 60) 4 _ (omega arith) (from_pick (eqb b 62) 4 1 (omega arith) (omega arith)))
  where
    from_pick : (t : Bool) (a c : ℕ) → 1 ≤ a → 1 ≤ c → 1 ≤ pick t a c
    from_pick true a c p q = p
    from_pick false a c p q = q

width_high : (b : ℕ) → 128 ≤ b → escaped_width b ≡ 1
width_high b h = width_plain b (λ e. omega arith) (λ e. omega arith) (λ e. omega arith)

begins_low : (b : ℕ) → b < 128 → begins b ≡ 1
unfolding begins
begins_low b h = simp (lt-ltb b 128 h)

begins_high : (b : ℕ) → 192 ≤ b → begins b ≡ 1
unfolding begins
begins_high b h = let l : 128 ≤ b = omega arith in simp (le-ltb b 128 l, le-ltb b 192 h)

-- a byte is no longer than those of a character that begins with it, and one more
width_begins : (b : ℕ) → escaped_width b ≤ 5 * begins b + 1
width_begins b =
    ⊎_elim
    (λ (l : b < 128). omega (arith, width_few b, begins_low b l))
    (λ (l : 128 ≤ b). omega (arith, width_high b l))
    (below? b 128)

-- how many bytes of a character are to come
abbrev to_come : Next → ℕ
to_come Next.First = 0
to_come (Next.Tail low high n) = n + 1
to_come Next.Edge = 2
to_come Next.Nothing = 0

tails_come : (n : ℕ) → to_come (tails n) ≤ n
tails_come n =
    ⊎_elim
    (λ (e : n ≡ 0). simp (eq-eqb n 0 e) (omega arith))
    (λ (f : n ≡ 0 → ⊥). simp (ne_eqb n 0 f) (omega arith))
    (same? n 0)

-- one of two ends of a character leaves no more to come than either
pick_come : (t : Bool) (s z : Next) (m : ℕ) → to_come s ≤ m → to_come z ≤ m → to_come (pick t s z) ≤ m
pick_come true s z m p q = p
pick_come false s z m p q = q

lead_come : (b : ℕ) → to_come (after_lead b) ≤ 3
unfolding after_lead more_after
lead_come b =
    let more =
    pick_upto (ltb b 224) 0 _ 2 (omega arith) (pick_upto (ltb b 240) 1 2 2 (omega arith) (omega arith)) in
    pick_come (eqb b 239) Next.Edge _ 3 (omega arith) (omega arith)

tail_come : (low high n b : ℕ) → to_come (after_tail low high n b) ≤ n
unfolding after_tail
tail_come low high n b = pick_come (both (leb low b) (leb b high)) (tails n) Next.Nothing n (tails_come n) (omega arith)

edge_come : (b : ℕ) → to_come (after_edge b) ≤ 1
unfolding after_edge
edge_come b = pick_come (eqb b 191) _ _ 1 (omega arith) (tail_come 128 190 1 b)

-- a byte is paid for by the characters that begin and those that end with it, or it makes the text no title
abbrev Paid : Next → ℕ → Type 0
Paid s b = (after s b ≡ Next.Nothing) ⊎ (escaped_width b + to_come (after s b) ≤ 5 * begins b + to_come s)

first_paid : (b : ℕ) → Paid Next.First b
unfolding after_first
first_paid b =
    ⊎_elim
    (λ (l : b < 32). inl (simp (lt-ltb b 32 l)))
    (λ (l : 32 ≤ b).
    ⊎_elim
    (λ (m : b < 127).
    let low : b < 128 = omega arith in
    inr (simp (le-ltb b 32 l, lt-ltb b 127 m) (omega (arith, width_few b, begins_low b low))))
    (λ (m : 127 ≤ b).
    ⊎_elim
    (λ (n : b < 194). inl (simp (le-ltb b 32 l, le-ltb b 127 m, lt-ltb b 194 n)))
    (λ (n : 194 ≤ b). lead l m n)
    (below? b 194))
    (below? b 127))
    (below? b 32)
  where
    lead : 32 ≤ b → 127 ≤ b → 194 ≤ b → Paid Next.First b
    lead l m n =
        ⊎_elim
        (λ (o : 244 < b). inl (simp (le-ltb b 32 l, le-ltb b 127 m, le-ltb b 194 n, lt-leb b 244 o)))
        (λ (o : b ≤ 244).
        let high : 192 ≤ b = omega arith in
        let wide : 128 ≤ b = omega arith in
        inr (simp (le-ltb b 32 l, le-ltb b 127 m, le-ltb b 194 n, le-leb b 244 o)
        (omega (arith, width_high b wide, begins_high b high, lead_come b))))
        (below? 244 b)

paid : (s : Next) (b : ℕ) → Paid s b
paid Next.First b = first_paid b
paid (Next.Tail low high n) b = inr (omega (arith, width_begins b, tail_come low high n b))
paid Next.Edge b = inr (omega (arith, width_begins b, edge_come b))
paid Next.Nothing b = inl refl

-- what is no title so far is none in the end
nothing_stays : (l : List ℕ) → is_whole (after_all Next.Nothing l) ≡ false
nothing_stays [] = refl
nothing_stays (b ∷ l) = nothing_stays l

whole_room : (s : Next) (l : List ℕ) → is_whole (after_all s l) ≡ true
    → escaped_length l ≤ 5 * characters_in l + to_come s
whole_room s [] e = omega arith
whole_room s (b ∷ l) e =
    ⊎_elim
    (λ (f : after s b ≡ Next.Nothing). absurd (never (sym (nothing_stays l) ∙ (rw f at e))))
    (λ (h : escaped_width b + to_come (after s b) ≤ 5 * begins b + to_come s).
    omega (arith, whole_room (after s b) l e))
    (paid s b)

-- a title that is shown is at most 300 bytes long in XML
pub title_room : (l : List ℕ) → is_title l ≡ true → escaped_length l ≤ 300
title_room l e =
    omega (
      arith,
      leb-true (characters_in l) 60 (both_left _ _ e),
      whole_room Next.First l (both_right (leb (characters_in l) 60) _ e),
    )

pub shown_room : (l : List ℕ) → is_shown l ≡ true → escaped_length l ≤ 300
shown_room l e = title_room l (both_right (ltb 0 (length l)) _ e)

-- and so it has no more bytes than that
length_upto : (l : List ℕ) → length l ≤ escaped_length l
length_upto [] = omega arith
length_upto (b ∷ l) = omega (arith, width_some b, length_upto l)

pub shown_length : (l : List ℕ) → is_shown l ≡ true → length l ≤ 300
shown_length l e = omega (arith, length_upto l, shown_room l e)
