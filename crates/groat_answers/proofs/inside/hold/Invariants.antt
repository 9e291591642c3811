use Rattle.std.proofs.Common.{drop, ◌≡◌, take, length, ◌≤◌}
use Rattle.std.specs.List.{AllZip}
use Rattle.groat_answers.proofs.inside.hold.Given as goal

-- as many places as items were passed hold what these stand for, and the others are as they were
abbrev pub invariant-loop-i : goal.invariant-loop-i
invariant-loop-i g l =
    (l.i ≤ length l.room)
    × (length l.room ≡ length l.fn.room)
    × AllZip (λ s t. goal.F-post g l.meaning s t) (take l.i l.list) (take l.i l.room)
    × (drop l.i l.room ≡ drop l.i l.fn.room)
