use Rattle.std.proofs.lemmas.Result.{err_from_is_err_and}
use Rattle.groat_answers.proofs.inside.Places+array+N+T.make.Goals as goal

pub returns-in_err-fill_first-clause-filled : goal.returns-in_err-fill_first-clause-filled
returns-in_err-fill_first-clause-filled g c =
    let p = err_from_is_err_and c.from_residual.result c.from_residual.ensures.1 in
    rw (p.1, p.2) (c.in_err-fill_first.ensures {u = tt})
