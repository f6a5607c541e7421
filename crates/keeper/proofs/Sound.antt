-- The test of soundness says what the request lists.
use mathlib.Core.Bool.{Bool, true, false}
use mathlib.Core.Path.{◌≡◌, refl}
use Prim.Native.Nat.{ℕ, zero, suc, ◌+◌, ◌<◌, ◌≤◌}
use native.Mathlib.Omega.{arith}
use borrow.Author.Tests.{ltb-true, leb-true, lt-ltb, le-leb, eqb-true, eqb-false}
use lib.Dec.{T, ltb, leb, eqb}
use Rattle.part.proofs.Choice.{T_true, true_T, and_l, and_r, and_in}
use Rattle.keeper.specs.declared.Queue.{Queue}
use Rattle.keeper.specs.declared.Keeper.{Keeper}
use Rattle.keeper.specs.Keeper.{queue_at, SoundQueue, SoundKeeper, queue_sound, sound_from, keeper_sound}
use Rattle.keeper.specs.Promises.{SoundExactly}

queue_sound_lem : (q : Queue) → T (queue_sound q) → SoundQueue q
queue_sound_lem q t =
    record {
      place = ltb-true q.head 8 (T_true _ (and_l (ltb q.head 8) (leb q.length 8) t));
      eight = leb-true q.length 8 (T_true _ (and_r (ltb q.head 8) (leb q.length 8) t));
    }

queue_tested : (q : Queue) → SoundQueue q → T (queue_sound q)
queue_tested q s = rw (lt-ltb q.head 8 s.place, le-leb q.length 8 s.eight) tt

-- n queues from a core on
from_sound : (n : ℕ) (k : Keeper) (c : ℕ) → T (sound_from k c n) → (d : ℕ) → c ≤ d → d < c + n → SoundQueue (queue_at k d)
unfolding sound_from
from_sound zero k c t d l u = let n : ⊥ = omega arith in absurd n
from_sound (suc n) k c t d l u =
    which (eqb d c) refl (λ m. from_sound n k (c + 1) (and_r (queue_sound (queue_at k c)) (sound_from k (c + 1) n) t) d m (omega arith))
  where
    which : (b : Bool) → eqb d c ≡ b → (c + 1 ≤ d → SoundQueue (queue_at k d)) → SoundQueue (queue_at k d)
    which true e f = rw (eqb-true d c e) (queue_sound_lem (queue_at k c) (and_l (queue_sound (queue_at k c)) (sound_from k (c + 1) n) t))
    which false e f = f (omega (arith, eqb-false d c e))

from_tested : (n : ℕ) (k : Keeper) (c : ℕ) → ((d : ℕ) → c ≤ d → d < c + n → SoundQueue (queue_at k d)) → T (sound_from k c n)
unfolding sound_from
from_tested zero k c f = tt
from_tested (suc n) k c f =
    and_in (queue_sound (queue_at k c)) (sound_from k (c + 1) n) (queue_tested (queue_at k c) (f c (omega arith) (omega arith)))
    (from_tested n k (c + 1) (λ d l u. f d (omega arith) (omega arith)))

pub sound_exactly : SoundExactly
unfolding keeper_sound
sound_exactly k = (in_words, as_test)
  where
    in_words : T (keeper_sound k) → SoundKeeper k
    in_words t =
        record {
          last = ltb-true k.last 4 (T_true _ (and_l (ltb k.last 4) (sound_from k 0 4) t));
          queues = λ d l. from_sound 4 k 0 (and_r (ltb k.last 4) (sound_from k 0 4) t) d (omega arith) (omega arith);
        }

    as_test : SoundKeeper k → T (keeper_sound k)
    as_test s = and_in (ltb k.last 4) (sound_from k 0 4) (true_T _ (lt-ltb k.last 4 s.last)) (from_tested 4 k 0 (λ d l u. s.queues d (omega arith)))

-- the same by the test's value
pub sound_facts : (k : Keeper) → keeper_sound k ≡ true → SoundKeeper k
sound_facts k e = (sound_exactly k).0 (true_T _ e)

pub sound_test : (k : Keeper) → SoundKeeper k → keeper_sound k ≡ true
sound_test k s = T_true _ ((sound_exactly k).1 s)
