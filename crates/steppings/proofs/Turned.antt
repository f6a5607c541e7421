-- On the second stepping a request begins with CMP 1 exactly where it fails with CMP 0.
use mathlib.Core.Bool.{Bool, true, false, cond, not}
use mathlib.Core.Logic.{◌↔◌}
use mathlib.Core.Path.{◌≡◌, refl}
use Prim.Native.Nat.{◌/◌}
use lib.Dec.{T}
use borrow.Author.Tests.{lt-ltb, lt-leb}
use Rattle.std.specs.Prelude.{Ok, Err}
use Rattle.part.specs.Part.{rows}
use Rattle.part.specs.Protection.{protects, cmp_set, cmp_cleared}
use Rattle.part.proofs.Complement.{complement_exactly}
use Rattle.part.proofs.Laws.{block_below}
use Rattle.requests.specs.Requests.{begins?, used_of, program_fate, erase_fate}
use Rattle.requests.specs.declared.Bar.TheVariants.{ByProtection}
use Rattle.steppings.specs.Steppings.{RequestsTurned}

-- of two tests each holds exactly where the other does not
turned : (a b : Bool) → T a ↔ ¬ T b → begins? (cond a (Err ByProtection) (Ok tt)) ≡ not (begins? (cond b (Err ByProtection) (Ok tt)))
turned true true h = absurd (h.0 tt tt)
turned true false h = refl
turned false true h = refl
turned false false h = absurd (h.1 (λ t. t))

pub requests_turned : RequestsTurned
unfolding erase_fate program_fate
requests_turned g a0 r e lo hi h =
    (rw (lt-ltb r.0 (rows g) h) turn, λ counts few. rw (lt-ltb r.0 (rows g) h, lt-leb 4 (used_of r counts) few) turn)
  where
    turn : begins? (cond (protects g (cmp_set a0) (r.0 / g.pages)) (Err ByProtection) (Ok tt)) ≡ not (begins? (cond (protects g (cmp_cleared a0) (r.0 / g.pages)) (Err ByProtection) (Ok tt)))
    turn =
        turned (protects g (cmp_set a0) (r.0 / g.pages)) (protects g (cmp_cleared a0) (r.0 / g.pages))
        (complement_exactly g a0 (r.0 / g.pages) e lo hi (block_below g r h))
