-- The laws of one adding and of one grant.
use Rattle.std.specs.Prelude.{if◌then◌else◌, Option, Ok, Err}
use mathlib.Core.Bool.{Bool, true, false, not}
use mathlib.Core.List.{[], ◌∷◌}
use mathlib.Core.Path.{◌≡◌, refl, sym, ap, subst, ◌∙◌}
use Prim.Native.Nat.{ℕ, zero, suc, ◌+◌, ◌-◌, ◌%◌, ◌<◌, ◌≤◌}
use native.Mathlib.Omega.{arith}
use borrow.Author.Tests.{not-true, not-false, le-leb, lt-leb, leb-true, leb-false, eq-eqb, ne_eqb, eqb-true, eqb-false}
use lib.Dec.{leb, eqb}
use lib.ListN.{length, length-set}
use lib.Seq.{get_or-set_same, get_or-set_other}
use Rattle.part.proofs.Choice.{cond_keep}
use Rattle.keeper.specs.declared.Queue.{Queue}
use Rattle.keeper.specs.declared.Keeper.{Keeper}
use Rattle.keeper.specs.declared.Refused.{Refused}
use Rattle.keeper.specs.declared.Refused.TheVariants.{BadCore, QueueFull, AllEmpty, BadKeeper}
use Rattle.keeper.specs.declared.Grant.{Grant}
use Rattle.keeper.specs.Keeper.{no_queue, queue_at, waiting, waiting_in, SoundQueue, SoundKeeper, keeper_sound, number_of, number_in, empty_queue, new_keeper, with_queue, put_of, added, add_of, front_of, rest_of, whose_turn, granted, grant, taken_from, served, grant_of}
use Rattle.keeper.specs.declared.Added.{Added}
use Rattle.keeper.specs.declared.Granted.{Granted}
use Rattle.keeper.specs.Promises.{AddLine, keeper_not_sound, core_above_3, eight_wait, has_room, AddExactly, GrantLine, all_empty, one_waits, GrantExactly, RefusedLeaves, Good, KeptSound, AtBack, AddsAtBack, InTurn, GrantsInTurn, NewKeeper}
use Rattle.keeper.proofs.Rings.{tags_length, none_wait, some_wait, front_leaves, put_back}
use Rattle.keeper.proofs.Searches.{Found, at, none, finds}
use Rattle.keeper.proofs.Sound.{sound_facts, sound_test}

-- a keeper that fails the test is not sound, and the other way round
fails : (k : Keeper) → not (keeper_sound k) ≡ true → ¬ SoundKeeper k
fails k e s = let f : true ≡ false = sym (sound_test k s) ∙ not-true (keeper_sound k) e in let z : ◌≡◌ {A = ℕ} 0 1 = cc in omega arith

unsound : (k : Keeper) → ¬ SoundKeeper k → keeper_sound k ≡ false
unsound k n = which (keeper_sound k) refl
  where
    which : (b : Bool) → keeper_sound k ≡ b → b ≡ false
    which true e = absurd (n (sound_facts k e))
    which false e = refl

-- ---- the ways of an adding: refused, or done

data Adds (k : Keeper) (core tag : ℕ) : Added → Type 0 where
  bars : (r : Refused) → AddLine k core (number_of r) → Adds k core tag (added k (Err r))
  puts : SoundKeeper k → core < 4 → (queue_at k core).length < 8 → Adds k core tag (added (with_queue k core (put_of (queue_at k core) tag) k.last) (Ok tt))

add_ways : (k : Keeper) (core tag : ℕ) → Adds k core tag (add_of k core tag)
unfolding add_of
add_ways k core tag =
    cond_keep (Adds k core tag) (not (keeper_sound k)) (λ e. bars BadKeeper (keeper_not_sound (fails k e)))
    (λ e. sound (sound_facts k (not-false (keeper_sound k) e)))
  where
    eight : (queue_at k core).length ≡ 8 → length (waiting k core) ≡ 8
    eight e = tags_length (queue_at k core).length (queue_at k core).tags (queue_at k core).head ∙ e

    sound : SoundKeeper k → Adds k core tag (if leb 4 core then added k (Err BadCore) else if eqb (queue_at k core).length 8 then added k (Err QueueFull) else added (with_queue k core (put_of (queue_at k core) tag) k.last) (Ok tt))
    sound s =
        cond_keep (Adds k core tag) (leb 4 core) (λ e. bars BadCore (core_above_3 s (leb-true 4 core e)))
        (λ e. let l : core < 4 = leb-false 4 core e in
        cond_keep (Adds k core tag) (eqb (queue_at k core).length 8)
        (λ f. bars QueueFull (eight_wait s (omega arith) (eight (eqb-true (queue_at k core).length 8 f))))
        (λ f. puts s l (omega (arith, (s.queues core l).eight, eqb-false (queue_at k core).length 8 f))))

-- each line gets its number
add_gives : (k : Keeper) (core tag n : ℕ) → AddLine k core n → number_in (add_of k core tag).answer ≡ n
unfolding add_of
add_gives k core tag n (keeper_not_sound u) = rw (unsound k u)
add_gives k core tag n (core_above_3 s l) = rw (sound_test k s, le-leb 4 core l)
add_gives k core tag n (eight_wait s l e) =
    let q = queue_at k core in
    rw (sound_test k s, lt-leb 4 core (omega arith), eq-eqb (queue_at k core).length 8 (sym (tags_length q.length q.tags q.head) ∙ e))
add_gives k core tag n (has_room s l u) =
    let q = queue_at k core in
    let e : length (waiting k core) ≡ (queue_at k core).length = tags_length q.length q.tags q.head in
    rw (sound_test k s, lt-leb 4 core (omega arith), ne_eqb (queue_at k core).length 8 (λ f. omega (arith, u, e, f)))

pub add_exactly : AddExactly
add_exactly k core tag n = (λ e. subst (AddLine k core) e (line (add_of k core tag) (add_ways k core tag)), add_gives k core tag n)
  where
    line : (a : Added) → Adds k core tag a → AddLine k core (number_in a.answer)
    line a (bars r l) = l
    line a (puts s l u) = has_room s (omega arith) (rw (tags_length (queue_at k core).length (queue_at k core).tags (queue_at k core).head) u)

-- ---- the ways of a grant: refused, or done

data Grants (k : Keeper) : Granted → Type 0 where
  bars : (r : Refused) → GrantLine k (number_of r) → Grants k (granted k (Err r))
  takes :
      SoundKeeper k → (s : ℕ) → s < 4 → 0 < (queue_at k (((k.last + 1) % 4 + s) % 4)).length →
      ((r : ℕ) → r < s → (queue_at k (((k.last + 1) % 4 + r) % 4)).length ≡ 0) → Grants k (taken_from k (((k.last + 1) % 4 + s) % 4))

-- how far a core is from the one after the last granted
away : (last core : ℕ) → last < 4 → core ≤ 3 → ((last + 1) % 4 + (core + 3 - last) % 4) % 4 ≡ core
away last core l u = omega arith

-- where none of the four is found to wait, all are empty
all_passed : (k : Keeper) → SoundKeeper k → ((r : ℕ) → r < 4 → (queue_at k (((k.last + 1) % 4 + r) % 4)).length ≡ 0) → (core : ℕ) → core ≤ 3 → (queue_at k core).length ≡ 0
all_passed k s f core l = subst (λ (c : ℕ). (queue_at k c).length ≡ 0) (away k.last core s.last l) (f ((core + 3 - k.last) % 4) (omega arith))

grant_ways : (k : Keeper) → Grants k (grant_of k)
unfolding grant_of
grant_ways k =
    cond_keep (Grants k) (not (keeper_sound k)) (λ e. bars BadKeeper (keeper_not_sound (fails k e)))
    (λ e. sound (sound_facts k (not-false (keeper_sound k) e)) (whose_turn k) (finds 4 k ((k.last + 1) % 4) (omega arith)))
  where
    sound : SoundKeeper k → (t : Option ℕ) → Found k ((k.last + 1) % 4) 4 t → Grants k (served k t)
    sound s t (at n l w f) = takes s n l w f
    sound s t (none f) = bars AllEmpty (all_empty s (λ core l. none_wait (queue_at k core) (all_passed k s f core l)))

-- each line gets its number
grant_gives : (k : Keeper) (n : ℕ) → GrantLine k n → number_in (grant_of k).answer ≡ n
unfolding grant_of
grant_gives k n (keeper_not_sound u) = rw (unsound k u)
grant_gives k n (all_empty s e) = rw (sound_test k s) (empty (whose_turn k) (finds 4 k ((k.last + 1) % 4) (omega arith)))
  where
    empty : (t : Option ℕ) → Found k ((k.last + 1) % 4) 4 t → number_in (served k t).answer ≡ 16
    empty t (at n l w f) = absurd (some_wait (queue_at k (((k.last + 1) % 4 + n) % 4)) w (e (((k.last + 1) % 4 + n) % 4) (omega arith)))
    empty t (none f) = refl
grant_gives k n (one_waits s core l w) = rw (sound_test k s) (waits (whose_turn k) (finds 4 k ((k.last + 1) % 4) (omega arith)))
  where
    waits : (t : Option ℕ) → Found k ((k.last + 1) % 4) 4 t → number_in (served k t).answer ≡ 0
    waits t (at n l w f) = refl
    waits t (none f) = absurd (w (none_wait (queue_at k core) (all_passed k s f core l)))

pub grant_exactly : GrantExactly
grant_exactly k n = (λ e. subst (GrantLine k) e (line (grant_of k) (grant_ways k)), grant_gives k n)
  where
    line : (g : Granted) → Grants k g → GrantLine k (number_in g.answer)
    line g (bars r l) = l
    line g (takes s n l w f) = one_waits s (((k.last + 1) % 4 + n) % 4) (omega arith) (some_wait (queue_at k (((k.last + 1) % 4 + n) % 4)) w)

-- ---- a refusal leaves the keeper as it was

pub refused_leaves : RefusedLeaves
refused_leaves k r = (λ core tag. adds core tag (add_of k core tag) (add_ways k core tag), grants (grant_of k) (grant_ways k))
  where
    adds : (core tag : ℕ) (a : Added) → Adds k core tag a → a.answer ≡ Err r → a.keeper ≡ k
    adds core tag a (bars q l) e = refl
    adds core tag a (puts s l u) e = let z : ⊥ = cc in absurd z

    grants : (g : Granted) → Grants k g → g.answer ≡ Err r → g.keeper ≡ k
    grants g (bars q l) e = refl
    grants g (takes s m l w f) e = let z : ⊥ = cc in absurd z

-- ---- one queue changed

at_same : (k : Keeper) (core last : ℕ) (q : Queue) → length k.queues ≡ 4 → core < 4 → queue_at (with_queue k core q last) core ≡ q
at_same k core last q e l = get_or-set_same k.queues core q no_queue (omega arith)

at_other : (k : Keeper) (core last : ℕ) (q : Queue) (d : ℕ) → ¬ (d ≡ core) → queue_at (with_queue k core q last) d ≡ queue_at k d
at_other k core last q d n = get_or-set_other k.queues core d q no_queue n

-- what holds of the new queue and of the old ones holds of all
each : (P : Queue → Type 0) (k : Keeper) (core last : ℕ) (q : Queue) → length k.queues ≡ 4 → core < 4 → P q → ((d : ℕ) → d < 4 → P (queue_at k d)) →
    (d : ℕ) → d < 4 → P (queue_at (with_queue k core q last) d)
each P k core last q e l p f d u = which (eqb d core) refl
  where
    which : (b : Bool) → eqb d core ≡ b → P (queue_at (with_queue k core q last) d)
    which true i = subst P (sym (ap (queue_at (with_queue k core q last)) (eqb-true d core i) ∙ at_same k core last q e l)) p
    which false i = subst P (sym (at_other k core last q d (eqb-false d core i))) (f d u)

good_with : (k : Keeper) (core last : ℕ) (q : Queue) → Good k → core < 4 → last < 4 → SoundQueue q → length q.tags ≡ 8 → Good (with_queue k core q last)
good_with k core last q g l u s e =
    record {
      formed =
          record {
            four = length-set k.queues core q ∙ g.formed.four;
            eight = each (λ (q : Queue). length q.tags ≡ 8) k core last q g.formed.four l e g.formed.eight;
          };
      sound = record { last = u; queues = each SoundQueue k core last q g.formed.four l s g.sound.queues };
    }

-- the queues of a new keeper
new_queue : (core : ℕ) → core < 4 → queue_at new_keeper core ≡ empty_queue
new_queue zero l = refl
new_queue (suc zero) l = refl
new_queue (suc (suc zero)) l = refl
new_queue (suc (suc (suc zero))) l = refl
new_queue (suc (suc (suc (suc core)))) l = let n : ⊥ = omega arith in absurd n

new_good : Good new_keeper
new_good =
    record {
      formed = record { four = refl; eight = λ core l. ap (λ (q : Queue). length q.tags) (new_queue core l) };
      sound = record { last = omega arith; queues = λ core l. subst SoundQueue (sym (new_queue core l)) (record { place = omega arith; eight = omega arith }) };
    }

pub kept_sound : KeptSound
kept_sound = (new_good, λ k g. (λ core tag. adds k g core tag (add_of k core tag) (add_ways k core tag), grants k g (grant_of k) (grant_ways k)))
  where
    adds : (k : Keeper) → Good k → (core tag : ℕ) (a : Added) → Adds k core tag a → Good a.keeper
    adds k g core tag a (bars r l) = g
    adds k g core tag a (puts s l u) = good_with k core k.last (put_of (queue_at k core) tag) g l s.last (record { place = (s.queues core l).place; eight = omega arith }) (length-set (queue_at k core).tags _ tag ∙ g.formed.eight core l)

    grants : (k : Keeper) → Good k → (r : Granted) → Grants k r → Good r.keeper
    grants k g r (bars q l) = g
    grants k g r (takes s n l w f) =
        let c = ((k.last + 1) % 4 + n) % 4 in
        let h : (queue_at k (((k.last + 1) % 4 + n) % 4)).length ≤ 8 = (s.queues c (omega arith)).eight in
        good_with k c c (rest_of (queue_at k c)) g (omega arith) (omega arith) (record { place = omega arith; eight = omega (arith, h) }) (g.formed.eight c (omega arith))

-- ---- what they do

pub adds_at_back : AddsAtBack
adds_at_back k f core tag = back (add_of k core tag) (add_ways k core tag)
  where
    back : (a : Added) → Adds k core tag a → a.answer ≡ Ok tt → AtBack k core tag a.keeper
    back a (bars r l) e = let z : ⊥ = cc in absurd z
    back a (puts s l u) e =
        let q = queue_at k core in
        record {
          back = ap waiting_in (at_same k core k.last (put_of q tag) f.four l) ∙ put_back q tag (f.eight core l) (s.queues core l).place u;
          others = at_other k core k.last (put_of q tag);
          last = refl;
        }

pub grants_in_turn : GrantsInTurn
grants_in_turn k f g = turn (grant_of k) (grant_ways k)
  where
    -- steps from the last granted, and from the core after it
    stepped : (last s r : ℕ) → r ≡ s + 1 → ((last + 1) % 4 + s) % 4 ≡ (last + r) % 4
    stepped last s r e = omega arith

    turn : (a : Granted) → Grants k a → a.answer ≡ Ok g → InTurn k g a.keeper
    turn a (bars r l) e = let z : ⊥ = cc in absurd z
    turn a (takes s n l w p) e =
        let c = ((k.last + 1) % 4 + n) % 4 in
        let q : grant (((k.last + 1) % 4 + n) % 4) (front_of (queue_at k (((k.last + 1) % 4 + n) % 4))) ≡ g = cc in
        subst (λ (g : Grant). InTurn k g (with_queue k c (rest_of (queue_at k c)) c)) q
        (record {
          steps = suc n;
          on = omega arith;
          round = omega arith;
          whose = stepped k.last n (suc n) (omega arith);
          passed = λ r a b. subst (λ (d : ℕ). waiting k d ≡ []) (stepped k.last (r - 1) r (omega arith)) (none_wait (queue_at k (((k.last + 1) % 4 + (r - 1)) % 4)) (p (r - 1) (omega arith)));
          front = front_leaves (queue_at k c) w ∙ ap (λ (q : Queue). front_of (queue_at k c) ∷ waiting_in q) (sym (at_same k c c (rest_of (queue_at k c)) f.four (omega arith)));
          others = at_other k c c (rest_of (queue_at k c));
          last = refl;
        })

pub new_keeper_lem : NewKeeper
new_keeper_lem = (λ core l. none_wait (queue_at new_keeper core) (ap (λ (q : Queue). q.length) (new_queue core l)), refl)
