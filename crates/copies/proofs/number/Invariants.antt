-- The bytes of a number, read from the last on.
use Rattle.copies.proofs.Values.{Reading}
use Rattle.copies.proofs.number.Given as goal

abbrev pub invariant-loop-i : goal.invariant-loop-i
invariant-loop-i l = Reading l.stretch l.n l.i
