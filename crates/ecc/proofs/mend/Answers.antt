-- `mend`: where no bit is marked, nothing is to do.
use mathlib.Core.Path.{sym, ◌∙◌}
use lib.ListN.{get_or}
use borrow.Author.Tests.{eqb-true}
use Rattle.ecc.proofs.Unmarked.{zeros_unmarked, zeros_mended}
use Rattle.ecc.proofs.mend.Goals as goal

pub returns-then-all_zero : goal.returns-then-all_zero
returns-then-all_zero c =
    let a = c.args in
    zeros_mended a.g (λ j. get_or a.marks.now j 0) a.cache.now (zeros_unmarked a.marks.now (eqb-true _ _ (sym c.all_zero.ensures ∙ c.if-all_zero.true)))
