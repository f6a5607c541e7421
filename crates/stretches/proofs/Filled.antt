-- Steps that each write one and the same byte fill a stretch with it.
use mathlib.Core.List.{List, ◌++◌}
use mathlib.Core.Path.{◌≡◌, sym, ◌∙◌}
use Prim.Native.Nat.{ℕ, zero, suc, ◌+◌, ◌≤◌, ◌<◌}
use native.Mathlib.Nat.{add-zero}
use native.Mathlib.Omega.{arith}
use lib.ListN.{length, replicate, take, drop, set, length-set, take-append-drop}
use lib.Seq.{take-suc-set, drop-set-lt}
use Rattle.std.proofs.lemmas.List.{append_assoc, length-drop, length-take-le, drop-drop}
use Rattle.stretches.specs.Steps.{steps}

-- n of them from byte i on
pub filled : (v n i : ℕ) (l : List ℕ) → i + n ≤ length l → steps (λ j m. set m j v) i n l ≡ take i l ++ (replicate n v ++ drop (i + n) l)
unfolding steps
filled v zero i l h = rw (add-zero i) (sym (take-append-drop i l))
filled v (suc n) i l h =
    let q : i < length l = omega arith in
    let d : i < suc i + n = omega arith in
    let s : i + suc n ≡ suc i + n = omega arith in
    filled v n (suc i) (set l i v) (simp length-set (omega arith)) ∙ rw (take-suc-set, drop-set-lt, append_assoc, s)

-- in a list, filled on its own and laid back
pub part_filled : (v a n : ℕ) (l : List ℕ) → a + n ≤ length l
    → take a l ++ (replicate (length (take n (drop a l))) v ++ drop n (drop a l)) ≡ steps (λ j m. set m j v) a n l
part_filled v a n l h =
    let k : n ≤ length (drop a l) = simp length-drop (omega arith) in
    rw (length-take-le, drop-drop) (sym (filled v n a l h))
