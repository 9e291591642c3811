-- `first_reaching` meets its contract: what the partition point says of the test `x < v`, in a nondecreasing table.
-- Assumes nothing.
use Rattle.std.proofs.Common.{rules, of_calls, nat_lt}
use Rattle.std.proofs.lemmas.Fn.{always_returns_same}
use Rattle.std.proofs.lemmas.List.Sorted.{IsPartitionedBy-ltb}
use Rattle.least.proofs.Tables.{table_sorted, partition_first}
use Rattle.least.proofs.inside.PassedTable.first_reaching.Goals as goal

pub returns : goal.returns
returns c =
    let t = c.args.self.table.now in
    let v = c.args.v in
    let called = always_returns_same _ _ _ (λ a r f k. search (rules, of_calls)) in
    let parted = IsPartitionedBy-ltb (λ x. x) t v (table_sorted t c.args.self.order) in
    let point = c.partition_point.ensures.partitioned (λ x. nat_lt x v) called parted in
    partition_first c.args.self.size c.partition_point.ensures.bound point
