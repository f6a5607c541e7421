-- `mend_all`: one sector after another.
use lib.ListN.{get_or}
use Rattle.ecc.proofs.Mending.{Mending}
use Rattle.ecc.proofs.mend_all.Given as goal

abbrev pub invariant-loop-j : goal.invariant-loop-j
invariant-loop-j l = Mending l.g (λ c. get_or l.marks c 0) l.initial.cache l.cache l.most l.j
