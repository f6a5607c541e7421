-- `reads`: after i bytes they are fed, the column moved on.
use mathlib.Core.Path.{◌≡◌}
use Rattle.part.specs.Part.{page}
use Rattle.part.specs.declared.Geometry.{Geometry}
use Rattle.stream.specs.Streams.{at_column}
use Rattle.exchange.proofs.Feeding.{Along}
use Rattle.exchange.proofs.reads.Given as goal

abbrev pub invariant-loop-i : goal.invariant-loop-i
invariant-loop-i l = (g : Geometry) → page g ≡ l.page → Along g l.s l.cache l.di l.initial.out l.cache l.out (at_column l.c l.s).bus l.i
