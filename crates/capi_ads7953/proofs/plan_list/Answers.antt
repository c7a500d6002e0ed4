use Rattle.std.proofs.lemmas.Result.{err_from_is_err_and}
use Rattle.capi_ads7953.proofs.Answers.{list_refused}
use Rattle.capi_ads7953.proofs.plan_list.Goals as goal

pub returns-in_err-before : goal.returns-in_err-before
returns-in_err-before c = let p = err_from_is_err_and c.from_residual.result c.from_residual.ensures.1 in
    rw (p.1, p.2) (list_refused c.args.part _ _ _ _ c.in_err-before.ensures)
