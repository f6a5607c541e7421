-- Bytes one after another: after i of them they are fed; a stream takes the rest.
use Rattle.exchange.proofs.Feeding.{Along}
use Rattle.exchange.proofs.exchanged.Given as goal

abbrev pub invariant-loop-i : goal.invariant-loop-i
invariant-loop-i l = Along l.g l.s l.initial.cache l.di l.initial.out l.cache l.out l.x l.i
