-- Worked examples: an entry nudged twice and taken back twice, each new refusal and its place in the order, forged
-- logs, and one whole sitting. Assumes nothing.
use mathlib.Core.Path.{◌≡◌, refl}
use mathlib.Core.List.{List, [], ◌∷◌}
use Prim.Native.Nat.{ℕ, zero, suc}
use lib.ListN.{set}
use lib.Dec.{lit<}
use Rattle.std.specs.Prelude.{Ok, Err}
use Rattle.table.specs.Sizes.{within}
use Rattle.table.specs.Order.{SixteenBits, not_below_left, not_above_right}
use Rattle.table.specs.Fill.{tabulated}
use Rattle.table.specs.Turns.{end}
use Rattle.table.specs.declared.Density.{Density}
use Rattle.table.specs.declared.Refusal.{Refusal}
use Rattle.table.specs.declared.Refusal.TheVariants.{TableLength, NotNondecreasing, IndexBeyond, OutsideNeighbours}
use Rattle.table.specs.declared.Refusal.TheVariants.{LogFull, NothingToTakeBack, BadLog}
use Rattle.curve.specs.Ramp.{ramp}
use Rattle.nudge_log.specs.Records.{word, goes_with}
use Rattle.logged.specs.State.{Logged, logged_on, Lent}
use Rattle.logged.specs.Promises.{Call, start, accept, nudge, take_back, LogPromise}
use Rattle.logged.specs.Sitting.{Turn, WholeSitting, ended, standing_nudges, Obeys, AllGranted}
use Rattle.logged.proofs.Sitting.{log_demand, all_back, accept_begins, turns_of, every_list_goes}
use Rattle.logged.proofs.Promises.{log_some}

density : ℕ → Density
density n = record { 0 = n }

-- a call is granted and leaves that, or is refused so and leaves all
abbrev Leaves : Call → Logged → Logged → Type 0
Leaves call s s' = LogPromise call s (Ok tt) s'

abbrev Refuses : Call → Logged → Refusal → Type 0
Refuses call s why = LogPromise call s (Err why) s

-- a log with 0 in every place
blank : List ℕ
blank = tabulated (λ i. 0) 63

bent : List ℕ
bent = 0 ∷ 100 ∷ 65535 ∷ []

-- The middle entry is nudged to 200, then to 300; the log has both, and they are taken back one after the other.
once : Logged
unfolding blank
once = logged_on (0 ∷ 200 ∷ 65535 ∷ []) (set blank 0 (word 1 100 200)) 1

twice : Logged
unfolding blank
twice = logged_on (0 ∷ 300 ∷ 65535 ∷ []) (set (set blank 0 (word 1 100 200)) 1 (word 1 200 300)) 2

first_nudge : Leaves (nudge 1 (density 200)) (logged_on bent blank 0) once
unfolding within not_below_left not_above_right blank bent density once tabulated
first_nudge = record { number = refl; after = refl }

second_nudge : Leaves (nudge 1 (density 300)) once twice
unfolding within not_below_left not_above_right density once twice
second_nudge = record { number = refl; after = refl }

first_back : Leaves take_back twice (logged_on (0 ∷ 200 ∷ 65535 ∷ []) twice.log 1)
unfolding within not_below_left not_above_right twice goes_with blank tabulated
first_back = record { number = refl; after = refl }

second_back : Leaves take_back (logged_on (0 ∷ 200 ∷ 65535 ∷ []) twice.log 1) (logged_on bent twice.log 0)
unfolding within not_below_left not_above_right twice bent goes_with blank tabulated
second_back = record { number = refl; after = refl }

third_back : Refuses take_back (logged_on bent twice.log 0) NothingToTakeBack
unfolding within twice bent
third_back = record { number = refl; after = refl }

-- A nudge to the entry's own number is granted, and logged.
own_number : Leaves (nudge 1 (density 100)) (logged_on bent blank 0) (logged_on bent (set blank 0 (word 1 100 100)) 1)
unfolding within not_below_left not_above_right bent density blank tabulated
own_number = record { number = refl; after = refl }

-- The 63rd nudge is granted and the 64th is not, by 15; a count above the places is 17; and 3, 2 and 4 come between
-- these two.
last-room :
    Leaves (nudge 1 (density 200)) (logged_on bent blank 62)
    (logged_on (0 ∷ 200 ∷ 65535 ∷ []) (set blank 62 (word 1 100 200)) 63)
unfolding within not_below_left not_above_right bent density blank tabulated
last-room = record { number = refl; after = refl }

full : Refuses (nudge 1 (density 200)) (logged_on bent blank 63) LogFull
unfolding within not_below_left not_above_right bent density
full = record { number = refl; after = refl }

above : Refuses (nudge 3 (density 200)) (logged_on bent blank 64) BadLog
unfolding within bent density
above = record { number = refl; after = refl }

beyond : Refuses (nudge 2 (density 7)) (logged_on (9 ∷ 3 ∷ []) blank 63) IndexBeyond
unfolding within density
beyond = record { number = refl; after = refl }

falling : Refuses (nudge 1 (density 8)) (logged_on (9 ∷ 3 ∷ []) blank 63) NotNondecreasing
unfolding within density
falling = record { number = refl; after = refl }

outside : Refuses (nudge 0 (density 101)) (logged_on bent blank 63) OutsideNeighbours
unfolding within not_below_left not_above_right bent density
outside = record { number = refl; after = refl }

empty_table : Refuses (nudge 0 (density 0)) (logged_on [] blank 64) TableLength
unfolding within density
empty_table = record { number = refl; after = refl }

-- Forged logs are 17 on a take-back: a count above the places, an index at the length or with its top bits set, another
-- new entry, and an old entry above the right or below the left neighbour. A neighbour's own number fits.
forged : ℕ → Logged
forged w = logged_on (10 ∷ 20 ∷ 30 ∷ []) (w ∷ []) 1

back_above : Refuses take_back (logged_on bent blank 64) BadLog
unfolding within bent
back_above = record { number = refl; after = refl }

at_length : Refuses take_back (forged (word 3 20 30)) BadLog
unfolding within not_below_left not_above_right goes_with forged
at_length = record { number = refl; after = refl }

top_bits : Refuses take_back (forged (word 65537 15 20)) BadLog
unfolding within not_below_left not_above_right goes_with forged
top_bits = record { number = refl; after = refl }

other_entry : Refuses take_back (forged (word 1 15 21)) BadLog
unfolding within not_below_left not_above_right goes_with forged
other_entry = record { number = refl; after = refl }

above_right : Refuses take_back (forged (word 1 31 20)) BadLog
unfolding within not_below_left not_above_right goes_with forged
above_right = record { number = refl; after = refl }

below_left : Refuses take_back (forged (word 1 9 20)) BadLog
unfolding within not_below_left not_above_right goes_with forged
below_left = record { number = refl; after = refl }

as_right : Leaves take_back (forged (word 1 30 20)) (logged_on (10 ∷ 30 ∷ 30 ∷ []) (word 1 30 20 ∷ []) 0)
unfolding within not_below_left not_above_right goes_with forged
as_right = record { number = refl; after = refl }

-- A falling table comes before a bad log, and a start or an accept of one empties it.
back_falling : Refuses take_back (logged_on (9 ∷ 3 ∷ []) blank 64) NotNondecreasing
unfolding within
back_falling = record { number = refl; after = refl }

start_empties : Leaves start (logged_on (9 ∷ 3 ∷ []) blank 64) (logged_on (0 ∷ 65535 ∷ []) blank 0)
unfolding within ramp tabulated
start_empties = record { number = refl; after = refl }

accept_empties : Leaves accept (logged_on bent blank 64) (logged_on bent blank 0)
unfolding within bent
accept_empties = record { number = refl; after = refl }

-- One sitting: the bent table accepted with a damaged log beside it; a nudge, a refused one, a nudge of the same entry,
-- and a take-back. So the table is the accepted one with the first nudge done; and one more take-back gives it back.
calls : List Call
unfolding density
calls = nudge 1 (density 200) ∷ nudge 3 (density 7) ∷ nudge 1 (density 300) ∷ take_back ∷ []

lent_well : Lent (logged_on bent blank 64)
unfolding bent blank tabulated
lent_well = record { bits = bits; room = refl }
  where
    bits : SixteenBits (0 ∷ 100 ∷ 65535 ∷ [])
    bits zero = lit< tt
    bits (suc zero) = lit< tt
    bits (suc (suc zero)) = lit< tt
    bits (suc (suc (suc i))) = lit< tt

opened : Turn
opened = record { call = accept; answer = (Ok tt); after = logged_on bent blank 0 }

sitting : WholeSitting (logged_on bent blank 64) opened (turns_of (logged_on bent blank 0) calls)
unfolding within bent calls opened density
sitting = every_list_goes (accept_begins lent_well refl refl) calls (lit< tt, (lit< tt, (lit< tt, (tt, tt))))

stands : standing_nudges opened (turns_of (logged_on bent blank 0) calls) ≡ word 1 100 200 ∷ []
unfolding within not_below_left not_above_right goes_with bent calls opened density blank tabulated
stands = refl

obeys : Obeys (logged_on bent blank 64) bent (word 1 100 200 ∷ []) (ended opened (turns_of (logged_on bent blank 0)
    calls))
unfolding within not_below_left not_above_right goes_with bent calls opened density blank tabulated
obeys = log_demand (logged_on bent blank 64) opened (turns_of (logged_on bent blank 0) calls) sitting

-- One more take-back is granted, and gives the accepted table back.
back : List Turn
back = turns_of (ended opened (turns_of (logged_on bent blank 0) calls)) (take_back ∷ [])

all_taken_back : AllGranted back × ((end (ended opened (turns_of (logged_on bent blank 0) calls)) back).table ≡ bent)
unfolding within not_below_left not_above_right goes_with bent calls opened density blank tabulated back
all_taken_back =
    all_back (logged_on bent blank 64) opened (turns_of (logged_on bent blank 0) calls) sitting back
    ((tt, log_some take_back (ended opened (turns_of (logged_on bent blank 0) calls))), tt) (refl, tt) refl
