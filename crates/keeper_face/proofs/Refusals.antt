-- A refusal as C sees it leaves the keeper as it was, and names no transfer.
use Rattle.std.specs.Prelude.{⊤, Result, Ok, Err}
use mathlib.Core.Path.{◌≡◌, refl, ap}
use Prim.Native.Nat.{ℕ}
use Rattle.keeper.specs.declared.Grant.{Grant}
use Rattle.keeper.specs.declared.Refused.{Refused}
use Rattle.keeper.specs.Keeper.{number_in, add_of, grant_of}
use Rattle.keeper.proofs.Laws.{refused_leaves}
use Rattle.keeper_face.specs.Face.{face_added, in_numbers, face_granted}
use Rattle.keeper_face.specs.Promises.{RefusedLeaves}

pub face_refused_leaves : RefusedLeaves
face_refused_leaves k = (λ core tag. adds core tag (add_of k core tag).answer refl, grants (grant_of k).answer refl)
  where
    adds : (core tag : ℕ) (a : Result ⊤ Refused) → (add_of k core tag).answer ≡ a → ¬ ((face_added (add_of k core tag)).refusal ≡ 0) → (face_added (add_of k core tag)).keeper ≡ k
    adds core tag (Ok u) e n = absurd (n (ap number_in e))
    adds core tag (Err r) e n = (refused_leaves k r).0 core tag e

    grants : (a : Result Grant Refused) → (grant_of k).answer ≡ a → ¬ ((face_granted (grant_of k)).refusal ≡ 0) →
        face_granted (grant_of k) ≡ record { keeper = k; refusal = (face_granted (grant_of k)).refusal; core = 0; tag = 0 }
    grants (Ok g) e n = absurd (n (ap (λ (a : Result Grant Refused). (in_numbers (grant_of k).keeper a).refusal) e))
    grants (Err r) e n = rw (e, (refused_leaves k r).1 e)
