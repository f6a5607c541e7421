-- Blank memory: the checks, and then three fills.
use Rattle.std.proofs.lemmas.Result.{err_from_is_err_and}
use Rattle.beside.proofs.BlankMemory.{blank_refused, blank_done}
use Rattle.beside.proofs.blank.Goals as goal

pub returns-in_err-check : goal.returns-in_err-check
returns-in_err-check c =
    let e = err_from_is_err_and c.from_residual.result c.from_residual.ensures.1 in
    rw (e.1, e.2) (blank_refused _ _ _ _ _ (rw c.power_up.ensures at c.check.ensures) _ c.in_err-check.was)

pub returns : goal.returns
returns c = blank_done _ _ _ _ _ (rw c.power_up.ensures at c.check.ensures) c.in_ok-check.was _ _ _ (c.fill.ensures.after (λ y p. p)) (c.fill-2.ensures.after (λ y p. p)) (c.fill-3.ensures.after (λ y p. p))
