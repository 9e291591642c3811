-- `mark` meets its contract: a way out for each mark. Assumes nothing.
use mathlib.Core.Path.{◌∙◌, sym}
use Rattle.picture.specs.Plot.{star, left, right, passed, blank}
use Rattle.picture.proofs.plot.mark.Goals as goal

pub returns-then-row-star_row : goal.returns-then-row-star_row
returns-then-row-star_row c =
    star (c.if-row-star_row.true ∙ c.star_row.ensures)

pub returns-then-row-star_row-2 : goal.returns-then-row-star_row-2
returns-then-row-star_row-2 c =
    let behind = rw c.left_of.ensures at c.star_row-2.ensures in
    left (λ e. c.if-row-star_row.false (e ∙ sym c.star_row.ensures)) (c.if-row-star_row-2.true ∙ behind)

pub returns-then-row-star_row-3 : goal.returns-then-row-star_row-3
returns-then-row-star_row-3 c =
    let beyond = rw c.right_of.ensures.0 at c.star_row-3.ensures in
    right (λ e. c.if-row-star_row.false (e ∙ sym c.star_row.ensures)) (c.if-row-star_row-3.true ∙ beyond)

pub returns-then-passes : goal.returns-then-passes
returns-then-passes c =
    let behind = rw c.left_of.ensures at c.star_row-2.ensures in
    let beyond = rw c.right_of.ensures.0 at c.star_row-3.ensures in
    passed (λ e. c.if-row-star_row.false (e ∙ sym c.star_row.ensures)) (λ e. c.if-row-star_row-2.false (e ∙ sym behind))
    (λ e. c.if-row-star_row-3.false (e ∙ sym beyond)) (c.passes.ensures.yes c.if-passes.true)

pub returns : goal.returns
returns c =
    blank (λ e. c.if-row-star_row.false (e ∙ sym c.star_row.ensures))
    (c.passes.ensures.no c.if-passes.false)
