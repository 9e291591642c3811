-- `put_numbers` meets its contract: the patterns are mapped from the seven numbers. Assumes nothing.
use mathlib.Core.Path.{◌≡◌, ◌∙◌, ap}
use mathlib.Core.List.{List, ◌++◌, map}
use Prim.Native.Nat.{ℕ, ◌<◌}
use lib.IntN.{ℤ, pos}
use lib.ListN.{get_or, take}
use mir.Syntax.{w32}
use mir.Val.{to_z, of_z}
use borrow.Author.Rules.{rules}
use Rattle.icc.specs.Bytes.{bytes32}
use Rattle.icc.specs.Words.{in_turn}
use Rattle.para.specs.Tag.{listed}
use Rattle.para.proofs.Places.{mapped}
use Rattle.para_writer.proofs.Complement.{patterns_machine}
use Rattle.para_writer.proofs.put_numbers.Goals as goal

pub returns : goal.returns
returns c =
    let seen = map (λ (z : ℤ). to_z w32 (of_z w32 z)) (listed c.args.numbers) in
    let each : (i : ℕ) → i < 7 → get_or c.map-patterns.result i 0 ≡ of_z w32 (get_or seen i (pos 0)) =
    λ i h. let k = (c.map-patterns.ensures.items.at i (pos 0) 0 h).2 in search rules in
    let all = mapped (of_z w32) (pos 0) 0 seen c.map-patterns.result c.map-patterns.ensures.items.long each in
    let same : seen ≡ listed c.args.numbers = search rules in
    let made = all ∙ ap (map (of_z w32)) same ∙ patterns_machine (listed c.args.numbers) in
    c.put_patterns.ensures
    ∙ ap (λ (l : List ℕ). take 12 c.args.out.now ++ in_turn bytes32 (take c.args.n l)) made
