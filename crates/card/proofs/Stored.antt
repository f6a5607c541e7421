-- Two bytes stored, one behind the other, are the two laid over the old ones.
use mathlib.Core.List.{List, [], ◌∷◌}
use mathlib.Core.Path.{◌≡◌, ◌∙◌}
use Prim.Native.Nat.{ℕ, ◌+◌, ◌<◌}
use native.Mathlib.Omega.{arith}
use lib.ListN.{length, set}
use Rattle.buslog.specs.Write.{over}
use Rattle.buslog.proofs.RoundTrip.{length_over, over_one, over_over}

pub over_two : (out : List ℕ) (at x y : ℕ) → at + 1 < length out → set (set out at x) (at + 1) y ≡ over out at (x ∷ y ∷ [])
over_two out at x y h =
    rw (over_one out at x (omega arith))
    (over_one (over out at (x ∷ [])) (at + 1) y (rw (length_over out at (x ∷ []) (omega arith)) h) ∙ over_over out at (x ∷ []) (y ∷ []) (omega arith))
