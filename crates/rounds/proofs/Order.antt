-- A keeper stays good, and each core is granted what was added for it, in its order and once.
use Rattle.std.specs.Prelude.{if◌then◌else◌, ⊤, Result, Ok, Err}
use mathlib.Core.Bool.{Bool, true, false}
use mathlib.Core.List.{List, [], ◌∷◌, ◌++◌, append_assoc, append-nil}
use mathlib.Core.Path.{◌≡◌, refl, sym, ap, ◌∙◌}
use Prim.Native.Nat.{ℕ}
use borrow.Author.Tests.{eqb-true, eqb-false}
use lib.Dec.{eqb}
use Rattle.keeper.specs.declared.Keeper.{Keeper}
use Rattle.keeper.specs.declared.Grant.{Grant}
use Rattle.keeper.specs.declared.Refused.{Refused}
use Rattle.keeper.specs.Keeper.{waiting, waiting_in, add_of, grant_of}
use Rattle.keeper.specs.Promises.{Good, AtBack, InTurn}
use Rattle.keeper.proofs.Laws.{refused_leaves, kept_sound, adds_at_back, grants_in_turn}
use Rattle.rounds.specs.Rounds.{adding, granting, called_all, grants, to_core, granted_to, for_core, added_for}
use Rattle.rounds.specs.Promises.{StaysGood, InOrder}

pub stays_good : StaysGood
unfolding called_all
stays_good k g [] = g
stays_good k g (adding d tag ∷ xs) = stays_good (add_of k d tag).keeper ((kept_sound.1 k g).0 d tag) xs
stays_good k g (granting ∷ xs) = stays_good (grant_of k).keeper (kept_sound.1 k g).1 xs

-- ---- one call

-- what an adding does to what waits for a core
pub add_waits : (k : Keeper) → Good k → (d tag core : ℕ) → waiting (add_of k d tag).keeper core ≡ waiting k core ++ for_core core d tag (add_of k d tag)
add_waits k g d tag core = by (add_of k d tag).answer refl
  where
    placed : (b : Bool) → eqb d core ≡ b → AtBack k d tag (add_of k d tag).keeper → waiting (add_of k d tag).keeper core ≡ waiting k core ++ (if b then tag ∷ [] else [])
    placed true e a = rw (← eqb-true d core e) a.back
    placed false e a = ap waiting_in (a.others core (λ q. eqb-false d core e (sym q))) ∙ sym (append-nil (waiting k core))

    by : (a : Result ⊤ Refused) → (add_of k d tag).answer ≡ a → waiting (add_of k d tag).keeper core ≡ waiting k core ++ for_core core d tag (add_of k d tag)
    by (Ok u) e = rw e (placed (eqb d core) refl (adds_at_back k g.formed d tag e))
    by (Err r) e = rw (e, (refused_leaves k r).0 d tag e) (sym (append-nil (waiting k core)))

-- an adding leaves the core granted last
pub add_last : (k : Keeper) → Good k → (core tag : ℕ) → (add_of k core tag).keeper.last ≡ k.last
add_last k g core tag = by (add_of k core tag).answer refl
  where
    by : (a : Result ⊤ Refused) → (add_of k core tag).answer ≡ a → (add_of k core tag).keeper.last ≡ k.last
    by (Ok u) e = (adds_at_back k g.formed core tag e).last
    by (Err r) e = rw ((refused_leaves k r).0 core tag e)

-- what a grant does to what waits for a core
pub grant_waits : (k : Keeper) → Good k → (core : ℕ) → to_core core (grant_of k).answer ++ waiting (grant_of k).keeper core ≡ waiting k core
grant_waits k g core = by (grant_of k).answer refl
  where
    taken : (x : Grant) (b : Bool) → eqb x.core core ≡ b → InTurn k x (grant_of k).keeper → (if b then x.tag ∷ [] else []) ++ waiting (grant_of k).keeper core ≡ waiting k core
    taken x true e i = rw (← eqb-true x.core core e) (sym i.front)
    taken x false e i = ap waiting_in (i.others core (λ q. eqb-false x.core core e (sym q)))

    by : (a : Result Grant Refused) → (grant_of k).answer ≡ a → to_core core (grant_of k).answer ++ waiting (grant_of k).keeper core ≡ waiting k core
    by (Ok x) e = rw e (taken x (eqb x.core core) refl (grants_in_turn k g.formed x e))
    by (Err r) e = rw (e, (refused_leaves k r).1 e)

-- ---- any calls

pub in_order : InOrder
unfolding called_all grants granted_to added_for
in_order k g [] core = sym (append-nil (waiting k core))
in_order k g (adding d tag ∷ xs) core =
    in_order (add_of k d tag).keeper ((kept_sound.1 k g).0 d tag) xs core
    ∙ ap (λ (l : List ℕ). l ++ added_for core (add_of k d tag).keeper xs) (add_waits k g d tag core)
    ∙ append_assoc (waiting k core) (for_core core d tag (add_of k d tag)) (added_for core (add_of k d tag).keeper xs)
in_order k g (granting ∷ xs) core =
    append_assoc (to_core core (grant_of k).answer) (granted_to core (grants (grant_of k).keeper xs)) (waiting (called_all (grant_of k).keeper xs) core)
    ∙ ap (λ (l : List ℕ). to_core core (grant_of k).answer ++ l) (in_order (grant_of k).keeper (kept_sound.1 k g).1 xs core)
    ∙ sym (append_assoc (to_core core (grant_of k).answer) (waiting (grant_of k).keeper core) (added_for core (grant_of k).keeper xs))
    ∙ ap (λ (l : List ℕ). l ++ added_for core (grant_of k).keeper xs) (grant_waits k g core)
