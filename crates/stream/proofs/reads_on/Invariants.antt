-- `reads_on`: after i shifts they are done, the column moved on.
use Prim.Native.Nat.{ℕ}
use mathlib.Core.Path.{◌≡◌}
use Rattle.part.specs.Part.{page}
use Rattle.part.specs.declared.Geometry.{Geometry}
use Rattle.stream.proofs.Shifting.{Streaming}
use Rattle.stream.proofs.reads_on.Given as goal

abbrev pub On : ℕ → Geometry → Type 0
On p g = page g ≡ p

abbrev pub invariant-loop-i : goal.invariant-loop-i
invariant-loop-i l = Streaming (On l.page) l.s l.log l.at l.written l.n l.cache l.initial.out l.cache l.out l.c l.i
