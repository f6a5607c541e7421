-- From the last place down: the digits that are left, and what stands behind them, are the text.
use mathlib.Core.List.{[], ◌∷◌, ◌++◌}
use mathlib.Core.Path.{◌≡◌}
use Prim.Native.Nat.{◌<◌, ◌-◌}
use lib.ListN.{length, drop}
use Rattle.lines.specs.Lines.{digits}
use Rattle.lines.proofs.store_number.Given as goal

abbrev pub invariant-loop-i : goal.invariant-loop-i
invariant-loop-i l = (l.i < length l.out) × (length l.out ≡ length l.initial.out) × (digits l.i l.rest ++ drop l.i l.out ≡ digits (length l.initial.out - 1) l.n ++ (l.last ∷ []))
