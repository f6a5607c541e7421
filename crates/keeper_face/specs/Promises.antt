-- What is promised of a refusal as C sees it.
use Rattle.std.specs.Prelude.{◌≡◌, ℕ}
use Rattle.keeper.specs.declared.Keeper.{Keeper}
use Rattle.keeper.specs.Keeper.{add_of, grant_of}
use Rattle.keeper_face.specs.Face.{face_added, face_granted}

-- a refusal leaves the keeper as it was, every field; a refused grant names core 0 and tag 0
abbrev pub RefusedLeaves : Type 0
RefusedLeaves =
    (k : Keeper) →
    ((core tag : ℕ) → ¬ ((face_added (add_of k core tag)).refusal ≡ 0) → (face_added (add_of k core tag)).keeper ≡ k)
    × (¬ ((face_granted (grant_of k)).refusal ≡ 0) → face_granted (grant_of k) ≡ record { keeper = k; refusal = (face_granted (grant_of k)).refusal; core = 0; tag = 0 })
