-- The two searches, core by core: for a queue that is not sound, and for one that is not empty.
use Rattle.std.specs.Prelude.{if◌then◌else◌, cond, Option, Some, None, length, drop, map}
use Rattle.std.specs.List.{list_all, find, range_with_len}
use Rattle.std.specs.Option.{option_map}
use Rattle.std.proofs.Common.{add-one, drop-cons}
use Rattle.std.proofs.Math.Bool.{and_comm}
use Rattle.std.proofs.lemmas.List.{drop_all}
use Rattle.std.proofs.lemmas.Iterator.Adapters.{option_map_id}
use mathlib.Core.Bool.{Bool, ◌&&◌}
use mathlib.Core.Path.{◌≡◌, refl, sym, ap, subst, ◌∙◌}
use Prim.Native.Nat.{ℕ, zero, suc, ◌+◌, ◌%◌, ◌<◌, ◌≤◌}
use native.Mathlib.Omega.{arith}
use borrow.Author.Tests.{lt-ltb, le-ltb}
use lib.Dec.{ltb}
use Rattle.keeper.specs.declared.Keeper.{Keeper}
use Rattle.keeper.specs.Keeper.{no_queue, queue_at, queue_sound, sound_from, keeper_sound, first_from, whose_turn}

-- ---- for a queue that is not sound

-- all queues from a core on, core by core
all_from : (n : ℕ) (k : Keeper) (c : ℕ) → c + n ≡ length k.queues → list_all queue_sound (drop c k.queues) ≡ sound_from k c n
unfolding sound_from
all_from zero k c e = rw (drop_all c k.queues (omega arith))
all_from (suc n) k c e =
    let l : c < length k.queues = omega arith in
    rw (drop-cons k.queues c no_queue) (ap (λ (b : Bool). queue_sound (queue_at k c) && b) (rw add-one (all_from n k (suc c) (omega arith))))

-- a keeper is sound where all its queues are and its last core is in range
pub sound_by : (k : Keeper) (r : Bool) → length k.queues ≡ 4 → r ≡ list_all queue_sound k.queues → keeper_sound k ≡ (r && ltb k.last 4)
unfolding keeper_sound
sound_by k r l e = and_comm (ltb k.last 4) (sound_from k 0 4) ∙ ap (λ (b : Bool). b && ltb k.last 4) (sym (e ∙ all_from 4 k 0 (sym l)))

-- ---- for a queue that is not empty

-- n cores in turn from the one that is s + 1 after the last granted, core by core
first_steps : (n : ℕ) (k : Keeper) (s : ℕ) →
    find (λ d. ltb 0 (queue_at k d).length) (map (λ r. (k.last + 1 + r) % 4) (range_with_len s n)) ≡ first_from k ((k.last + 1 + s) % 4) n
unfolding first_from
first_steps zero k s = refl
first_steps (suc n) k s =
    let e : (k.last + 1 + (s + 1)) % 4 ≡ ((k.last + 1 + s) % 4 + 1) % 4 = omega arith in
    let c : ℕ = (k.last + 1 + s) % 4 in
    ap (λ (o : Option ℕ). cond (ltb 0 (queue_at k c).length) (Some c) o) (first_steps n k (s + 1) ∙ ap (λ (c : ℕ). first_from k c n) e)

-- all four
pub first_found : (k : Keeper) (o : Option ℕ) → option_map (λ x. x) o ≡ find (λ d. ltb 0 (queue_at k d).length) (map (λ s. (k.last + 1 + s) % 4) (range_with_len 0 4)) → o ≡ whose_turn k
first_found k o e = sym (option_map_id o) ∙ e ∙ first_steps 4 k 0 ∙ ap (λ (c : ℕ). first_from k c 4) start
  where
    start : (k.last + 1 + 0) % 4 ≡ (k.last + 1) % 4
    start = omega arith

-- what the search finds: the core that is s after the one it began at, the queues before it empty; or nobody, all n queues empty
pub data Found (k : Keeper) (c n : ℕ) : Option ℕ → Type 0 where
  at : (s : ℕ) → s < n → 0 < (queue_at k ((c + s) % 4)).length → ((r : ℕ) → r < s → (queue_at k ((c + r) % 4)).length ≡ 0) → Found k c n (Some ((c + s) % 4))
  none : ((r : ℕ) → r < n → (queue_at k ((c + r) % 4)).length ≡ 0) → Found k c n None

pub finds : (n : ℕ) (k : Keeper) (c : ℕ) → c < 4 → Found k c n (first_from k c n)
unfolding first_from
finds zero k c h = none (λ r l. let n : ⊥ = omega arith in absurd n)
finds (suc n) k c h = look (queue_at k c).length refl (finds n k ((c + 1) % 4) (omega arith))
  where
    here : (c + 0) % 4 ≡ c
    here = omega arith

    further : (r : ℕ) → ((c + 1) % 4 + r) % 4 ≡ (c + suc r) % 4
    further r = omega arith

    behind : (s : ℕ) → (queue_at k c).length ≡ 0 → ((r : ℕ) → r < s → (queue_at k (((c + 1) % 4 + r) % 4)).length ≡ 0) → (r : ℕ) → r < suc s → (queue_at k ((c + r) % 4)).length ≡ 0
    behind s e f zero l = rw here e
    behind s e f (suc r) l = rw (← further r) (f r (omega arith))

    on : (t : Option ℕ) → (queue_at k c).length ≡ 0 → Found k ((c + 1) % 4) n t → Found k c (suc n) t
    on t e (at s l w f) = rw (further s) (at (suc s) (omega arith) (rw (← further s) w) (behind s e f))
    on t e (none f) = none (behind n e f)

    look : (m : ℕ) → (queue_at k c).length ≡ m → Found k ((c + 1) % 4) n (first_from k ((c + 1) % 4) n) → Found k c (suc n) (if ltb 0 (queue_at k c).length then Some c else first_from k ((c + 1) % 4) n)
    look zero e f = rw (le-ltb 0 (queue_at k c).length (omega (arith, e))) (on (first_from k ((c + 1) % 4) n) e f)
    look (suc m) e f =
        let w : 0 < (queue_at k c).length = omega (arith, e) in
        let w₀ : 0 < (queue_at k ((c + 0) % 4)).length = subst (λ (d : ℕ). 0 < (queue_at k d).length) (sym here) w in
        let t : Found k c (suc n) (Some ((c + 0) % 4)) = at 0 (omega arith) w₀ (λ r l. let n : ⊥ = omega arith in absurd n) in
        rw (lt-ltb 0 (queue_at k c).length w) (subst (λ (d : ℕ). Found k c (suc n) (Some d)) here t)

-- a core whose turn it is is one of the four, and its queue is not empty
abbrev Served : Keeper → Option ℕ → Type 0
Served k (Some d) = (d < 4) × (0 < (queue_at k d).length)
Served k None = 0 ≤ 0

found_waits : (k : Keeper) (d : ℕ) → whose_turn k ≡ Some d → (d < 4) × (0 < (queue_at k d).length)
found_waits k d e = subst (Served k) e (served (whose_turn k) (finds 4 k ((k.last + 1) % 4) (omega arith)))
  where
    served : (t : Option ℕ) → Found k ((k.last + 1) % 4) 4 t → Served k t
    served t (at s l w f) = (omega arith, w)
    served t (none f) = omega arith

pub turn_below : (k : Keeper) (d : ℕ) → whose_turn k ≡ Some d → d < 4
turn_below k d e = (found_waits k d e).0

pub turn_waits : (k : Keeper) (d : ℕ) → whose_turn k ≡ Some d → 0 < (queue_at k d).length
turn_waits k d e = (found_waits k d e).1
