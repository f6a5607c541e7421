-- `reads_round`: after k shifts they are done, the column moved on, and still in the page.
use Prim.Native.Nat.{ℕ, ◌≤◌, ◌<◌}
use mathlib.Core.List.{List}
use mathlib.Core.Path.{◌≡◌}
use lib.ListN.{length}
use Rattle.part.specs.Part.{page}
use Rattle.part.specs.declared.Geometry.{Geometry}
use Rattle.stream.proofs.Shifting.{Streaming}
use Rattle.stream.proofs.reads_round.Given as goal

abbrev pub On : List ℕ → Geometry → Type 0
On cache g = page g ≡ length cache

abbrev pub invariant-loop-k : goal.invariant-loop-k
invariant-loop-k l = Streaming (On l.cache) l.s l.log l.at l.written l.n l.cache l.initial.out l.cache l.out l.c l.k × (l.c.0 < length l.cache) × (length l.cache ≤ 4096)
