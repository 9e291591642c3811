-- Calls one after the other, each with its answer and what it leaves: a sitting, for any state and any kind of call.
-- Assumes nothing.
use Rattle.std.specs.Prelude.{List, [], ◌∷◌, Result}
use Rattle.table.specs.declared.Refusal.{Refusal}

-- one turn: a call, its answer, and the state after it
pub record Turn (S C : Type 0) : Type 0 where
  pub call : C
  pub answer : Result (Unit {0}) Refusal
  pub after : S

module _ {S C : Type 0} where
  -- the turns follow one another from s on, each from what the one before it left, and each does as it promises
  abbrev pub Run : (S → C → Result (Unit {0}) Refusal → S → Type 0) → S → List (Turn S C) → Type 0
  Run Promised s [] = Unit {0}
  Run Promised s (t ∷ turns) = Promised s t.call t.answer t.after × Run Promised t.after turns

  -- P holds of s and of what each turn leaves
  abbrev pub Throughout : (S → Type 0) → S → List (Turn S C) → Type 0
  Throughout P s [] = P s
  Throughout P s (t ∷ turns) = P s × Throughout P t.after turns

  -- what the last turn leaves, and s where there is none
  abbrev pub end : S → List (Turn S C) → S
  end s [] = s
  end s (t ∷ turns) = end t.after turns
