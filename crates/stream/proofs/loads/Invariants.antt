-- `loads`: after i shifts they are done, the column moved on.
use Rattle.stream.proofs.Shifting.{Any, Streaming}
use Rattle.stream.proofs.loads.Given as goal

abbrev pub invariant-loop-i : goal.invariant-loop-i
invariant-loop-i l = Streaming Any l.s l.log l.at l.written l.n l.initial.cache l.initial.out l.cache l.out l.c l.i
