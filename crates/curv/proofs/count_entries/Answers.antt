-- `count_entries` meets its contract: each answer is that of the first test that fails, past those that hold. Assumes
-- nothing.
use native.Mathlib.Omega.{arith}
use Rattle.curv.proofs.Checks.{short, unsigned, unreserved, many, total_right, total_other, unwhole, right}
use Rattle.curv.proofs.Promises.{count_refused, count_granted}
use Rattle.curv.proofs.count_entries.Goals as goal

pub returns-then-tag-lt12 : goal.returns-then-tag-lt12
returns-then-tag-lt12 c =
    count_refused _ _ (short _ (omega arith))

pub returns-then-u32_at-ne-SIGNATURE : goal.returns-then-u32_at-ne-SIGNATURE
returns-then-u32_at-ne-SIGNATURE c =
    count_refused _ _ (unsigned _ (omega arith) (λ e. omega arith))

pub returns-then-u32_at-ne0 : goal.returns-then-u32_at-ne0
returns-then-u32_at-ne0 c =
    count_refused _ _ (unreserved _ (omega arith) (omega arith) (λ e. omega arith))

pub returns-then-n-gt-MOST : goal.returns-then-n-gt-MOST
returns-then-n-gt-MOST c =
    count_refused _ _ (many _ (omega arith) (omega arith) (omega arith) (omega arith))

pub returns-then-tag-tag_length : goal.returns-then-tag-tag_length
returns-then-tag-tag_length c =
    count_refused _ _
    (unwhole _ (omega arith) (omega arith) (omega arith) (omega arith) (total_other _ _ (λ e. omega arith)))

pub returns : goal.returns
returns c =
    count_granted _ _
    (right _ (omega arith) (omega arith) (omega arith) (omega arith) (total_right _ _ (omega arith)))
    (omega arith)
