-- `in_cell` meets its contract: its two quotients are those of the law on one cell, and no step on the way wraps.
-- Assumes nothing.
use mathlib.Core.Path.{◌≡◌, ◌∙◌, ap, sym, subst}
use Prim.Native.Nat.{ℕ, ◌+◌, ◌*◌, ◌≤◌}
use native.Mathlib.Omega.{arith}
use Rattle.table.specs.Quotient.{div_ceil}
use Rattle.least.proofs.Cell.{cell_steps, steps_read, steps_small, cell_inside, cell_least}
use Rattle.least.proofs.Tables.{searchable, searchable_few}
use Rattle.least.proofs.inside.PassedTable.in_cell.Goals as goal

pub overflow_mul-c : goal.overflow_mul-c
overflow_mul-c c =
    let stepped : c.div_ceil-steps.result ≡ cell_steps c.args.self.table.now
    c.args.v c.args.c = steps_read c.args.self.table.now _ _ c.entry-before.ensures.0 c.wide.ensures.0
    c.entry.ensures.0 c.div_ceil-steps.ensures in
    let small : c.args.c * 65535 + c.div_ceil-steps.result ≤ 65535 * 65535 =
    let s = searchable c.args.self.size c.args.self.order c.top-top.ensures in
    omega (arith, stepped, steps_small s c.requires, searchable_few s) in
    omega (arith, small)

pub overflow_add-c-2 : goal.overflow_add-c-2
overflow_add-c-2 c =
    let stepped : c.div_ceil-steps.result ≡ cell_steps c.args.self.table.now
    c.args.v c.args.c = steps_read c.args.self.table.now _ _ c.entry-before.ensures.0 c.wide.ensures.0
    c.entry.ensures.0 c.div_ceil-steps.ensures in
    let small : c.args.c * 65535 + c.div_ceil-steps.result ≤ 65535 * 65535 =
    let s = searchable c.args.self.size c.args.self.order c.top-top.ensures in
    omega (arith, stepped, steps_small s c.requires, searchable_few s) in
    omega (arith, small)

pub returns : goal.returns
returns c =
    let stepped : c.div_ceil-steps.result ≡ cell_steps c.args.self.table.now
    c.args.v c.args.c = steps_read c.args.self.table.now _ _ c.entry-before.ensures.0 c.wide.ensures.0
    c.entry.ensures.0 c.div_ceil-steps.ensures in
    let e : c.div_ceil.result
    ≡ div_ceil (c.args.c * 65535 + cell_steps c.args.self.table.now c.args.v c.args.c) c.top-top.result =
    c.div_ceil.ensures ∙ ap (λ (s : ℕ). div_ceil (c.args.c * 65535 + s) c.top-top.result) stepped in
    let s = searchable c.args.self.size c.args.self.order c.top-top.ensures in
    (e ∙ sym (cell_least s c.requires), subst (λ (p : ℕ). p ≤ 65535) (sym e) (cell_inside s c.requires))
