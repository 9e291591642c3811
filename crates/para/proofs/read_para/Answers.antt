-- `read_para` meets its contract: each answer is that of the first test that fails, past those that hold. Assumes
-- nothing.
use native.Mathlib.Omega.{arith}
use Rattle.para.proofs.Checks.{short, unsigned, unreserved, unreserved_after, untyped, unwhole, right}
use Rattle.para.proofs.Promises.{read_refused, read_granted}
use Rattle.para.proofs.read_para.Goals as goal

pub returns-then-tag-lt12 : goal.returns-then-tag-lt12
returns-then-tag-lt12 c =
    read_refused _ _ (short _ (omega arith))

pub returns-then-u32_at-ne-SIGNATURE : goal.returns-then-u32_at-ne-SIGNATURE
returns-then-u32_at-ne-SIGNATURE c =
    read_refused _ _ (unsigned _ (omega arith) (λ e. omega arith))

pub returns-then-u32_at-ne0 : goal.returns-then-u32_at-ne0
returns-then-u32_at-ne0 c =
    read_refused _ _ (unreserved _ (omega arith) (omega arith) (λ e. omega arith))

pub returns-then-u16_at-ne0 : goal.returns-then-u16_at-ne0
returns-then-u16_at-ne0 c =
    read_refused _ _ (unreserved_after _ (omega arith) (omega arith) (omega arith) (λ e. omega arith))

pub returns-then-function_type-gt4 : goal.returns-then-function_type-gt4
returns-then-function_type-gt4 c =
    read_refused _ _ (untyped _ (omega arith) (omega arith))

pub returns-then-tag-tag_length : goal.returns-then-tag-tag_length
returns-then-tag-tag_length c =
    let n = c.count_of-n.result in
    read_refused _ _ (unwhole _ (omega arith) (omega arith) n (cc) (λ e. omega arith))

pub returns : goal.returns
returns c =
    let n = c.count_of-n.result in
    read_granted _ (right _ (omega arith) (omega arith) n (cc) (omega arith)) (cc) c.numbers_of.ensures
