-- No copy before the one that is looked at holds.
use mathlib.Core.Bool.{false}
use mathlib.Core.Path.{◌≡◌}
use Prim.Native.Nat.{ℕ, ◌<◌}
use Rattle.copies.specs.Copies.{copy_at, holds}
use Rattle.copies.proofs.read.Given as goal

abbrev pub invariant-loop-copy : goal.invariant-loop-copy
invariant-loop-copy l = (k : ℕ) → k < l.copy → holds (copy_at k l.memory) ≡ false
