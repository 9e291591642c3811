-- `curve_from` meets its contract: the floats are mapped from the seven numbers. Assumes nothing.
use mathlib.Core.Path.{◌≡◌, ◌∙◌, ap, subst}
use mathlib.Core.List.{List, map}
use Prim.Native.Nat.{ℕ, ◌<◌}
use lib.IntN.{ℤ, pos}
use lib.Ieee.{Float, nan}
use lib.ListN.{get_or, take}
use mir.Syntax.{w32}
use mir.Val.{to_z, of_z}
use borrow.Author.Rules.{rules}
use Rattle.parametric.specs.Promises.{NewPromise}
use Rattle.para.specs.Tag.{listed}
use Rattle.para.proofs.Places.{mapped}
use Rattle.para_curve.specs.Promises.{nearest}
use Rattle.para_curve.proofs.curve_from.Goals as goal

pub returns : goal.returns
returns c =
    let seen = map (λ (z : ℤ). to_z w32 (of_z w32 z)) (listed c.args.numbers) in
    let each : (i : ℕ) → i < 7 → get_or c.map-params.result i nan ≡ nearest (get_or seen i (pos 0)) =
    λ i h. let k = (c.map-params.ensures.items.at i (pos 0) nan h).2 in search rules in
    let all = mapped nearest (pos 0) nan seen c.map-params.result c.map-params.ensures.items.long each in
    let same : seen ≡ listed c.args.numbers = search rules in
    let made : c.map-params.result ≡ map nearest (listed c.args.numbers) = all ∙ ap (map nearest) same in
    subst (λ (l : List Float). NewPromise (take c.args.n l) c.new.result) made c.new.ensures
