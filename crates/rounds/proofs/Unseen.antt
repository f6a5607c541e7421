-- Nothing but what waits, and the core granted last, is seen: keepers alike in them answer alike and stay alike.
use Rattle.std.specs.Prelude.{⊤, Result, Ok, Err}
use mathlib.Core.List.{List, [], ◌∷◌, ◌++◌}
use mathlib.Core.Path.{◌≡◌, refl, sym, ap, ◌∙◌}
use Prim.Native.Nat.{ℕ, ◌+◌, ◌%◌, ◌<◌}
use native.Mathlib.Omega.{arith}
use Rattle.keeper.specs.declared.Keeper.{Keeper}
use Rattle.keeper.specs.declared.Grant.{Grant}
use Rattle.keeper.specs.declared.Refused.{Refused}
use Rattle.keeper.specs.Keeper.{waiting, SoundKeeper, number_in, add_of, grant, grant_of}
use Rattle.keeper.specs.Promises.{AddLine, GrantLine, Good, InTurn}
use Rattle.keeper.proofs.Laws.{add_exactly, grant_exactly, refused_leaves, kept_sound, grants_in_turn}
use Rattle.rounds.specs.Rounds.{adding, granting, called_all, answered_all, to_core}
use Rattle.rounds.specs.Promises.{Alike, Unseen}
use Rattle.rounds.proofs.Answers.{given, denied}
use Rattle.rounds.proofs.Order.{add_waits, add_last, grant_waits}

turned : (k j : Keeper) → Alike k j → Alike j k
turned k j a = record { waits = λ core h. sym (a.waits core h); last = sym a.last }

-- what follows the same is the same
cancel : (xs ys zs : List ℕ) → xs ++ ys ≡ xs ++ zs → ys ≡ zs
cancel [] ys zs e = e
cancel (x ∷ xs) ys zs e = cancel xs ys zs (cc)

-- ---- the refusals: both are sound, so what one is refused for holds of the other

add_line : (k j : Keeper) → SoundKeeper k → SoundKeeper j → Alike k j → (core n : ℕ) → AddLine k core n → AddLine j core n
add_line k j s z a core n (AddLine.keeper_not_sound f) = absurd (f s)
add_line k j s z a core n (AddLine.core_above_3 _ h) = AddLine.core_above_3 z h
add_line k j s z a core n (AddLine.eight_wait _ h e) = AddLine.eight_wait z h (rw (← a.waits core (omega arith)) e)
add_line k j s z a core n (AddLine.has_room _ h e) = AddLine.has_room z h (rw (← a.waits core (omega arith)) e)

grant_line : (k j : Keeper) → SoundKeeper k → SoundKeeper j → Alike k j → (n : ℕ) → GrantLine k n → GrantLine j n
grant_line k j s z a n (GrantLine.keeper_not_sound f) = absurd (f s)
grant_line k j s z a n (GrantLine.all_empty _ f) = GrantLine.all_empty z (λ core h. rw (← a.waits core (omega arith)) (f core h))
grant_line k j s z a n (GrantLine.one_waits _ core h f) = GrantLine.one_waits z core h (rw (← a.waits core (omega arith)) f)

-- ---- the grants

-- a core that has its turn in one is not passed in the other
in_turn : (k j : Keeper) → Alike k j → (g h : Grant) (k' j' : Keeper) → (x : InTurn k g k') (y : InTurn j h j') → ¬ (x.steps < y.steps)
in_turn k j a g h k' j' x y l =
    let e : waiting k g.core ≡ [] = rw x.whose (a.waits ((k.last + x.steps) % 4) (omega arith) ∙ rw a.last (y.passed x.steps x.on l)) in
    let f : waiting k g.core ≡ g.tag ∷ waiting k' g.core = x.front in
    let z : ⊥ = cc in
    absurd z

same_core : (k j : Keeper) → Alike k j → (g h : Grant) (k' j' : Keeper) → (x : InTurn k g k') (y : InTurn j h j') → g.core ≡ h.core
same_core k j a g h k' j' x y =
    let s : x.steps ≡ y.steps = omega (arith, in_turn k j a g h k' j' x y, in_turn j k (turned k j a) h g j' k' y x) in
    x.whose ∙ rw (a.last, s) (sym y.whose)

same_tag : (k j : Keeper) → Alike k j → (g h : Grant) (k' j' : Keeper) → (x : InTurn k g k') (y : InTurn j h j') → g.tag ≡ h.tag
same_tag k j a g h k' j' x y =
    let c : g.core ≡ h.core = same_core k j a g h k' j' x y in
    let w : waiting k g.core ≡ waiting j g.core = a.waits g.core (rw x.whose (omega arith)) in
    let e : waiting k g.core ≡ g.tag ∷ waiting k' g.core = x.front in
    let f : waiting j g.core ≡ h.tag ∷ waiting j' g.core = rw c y.front in
    cc

-- grants with the same core and tag are the same
same_grant : (x y : Grant) → x.core ≡ y.core → x.tag ≡ y.tag → x ≡ y
same_grant x y c t = ap (λ (core : ℕ). grant core x.tag) c ∙ ap (grant y.core) t

-- ---- what two such keepers answer

module _ (k j : Keeper) (g : Good k) (z : Good j) (a : Alike k j) where
  add_same : (core tag : ℕ) → (add_of k core tag).answer ≡ (add_of j core tag).answer
  add_same core tag = by (add_of j core tag).answer refl
    where
      n : (b : Result ⊤ Refused) → (add_of j core tag).answer ≡ b → number_in (add_of k core tag).answer ≡ number_in b
      n b e = (add_exactly k core tag (number_in b)).1 (add_line j k z.sound g.sound (turned k j a) core (number_in b) ((add_exactly j core tag (number_in b)).0 (ap number_in e)))

      by : (b : Result ⊤ Refused) → (add_of j core tag).answer ≡ b → (add_of k core tag).answer ≡ b
      by (Ok u) e = (given (add_of k core tag).answer (n (Ok u) e)).1
      by (Err r) e = denied (add_of k core tag).answer r (n (Err r) e)

  add_alike : (core tag : ℕ) → Alike (add_of k core tag).keeper (add_of j core tag).keeper
  add_alike core tag = record { waits = waits; last = add_last k g core tag ∙ a.last ∙ sym (add_last j z core tag) }
    where
      waits : (d : ℕ) → d < 4 → waiting (add_of k core tag).keeper d ≡ waiting (add_of j core tag).keeper d
      waits d h = add_waits k g core tag d ∙ rw (add_same core tag, a.waits d h) (sym (add_waits j z core tag d))

  -- the same grant, and the same core granted last afterwards
  grant_both : ((grant_of k).answer ≡ (grant_of j).answer) × ((grant_of k).keeper.last ≡ (grant_of j).keeper.last)
  grant_both = by (grant_of j).answer refl
    where
      n : (b : Result Grant Refused) → (grant_of j).answer ≡ b → number_in (grant_of k).answer ≡ number_in b
      n b e = (grant_exactly k (number_in b)).1 (grant_line j k z.sound g.sound (turned k j a) (number_in b) ((grant_exactly j (number_in b)).0 (ap number_in e)))

      both : (x y : Grant) → (grant_of k).answer ≡ Ok x → (grant_of j).answer ≡ Ok y → ((grant_of k).answer ≡ Ok y) × ((grant_of k).keeper.last ≡ (grant_of j).keeper.last)
      both x y d e =
          let v : InTurn k x (grant_of k).keeper = grants_in_turn k g.formed x d in
          let w : InTurn j y (grant_of j).keeper = grants_in_turn j z.formed y e in
          let c : x.core ≡ y.core = same_core k j a x y (grant_of k).keeper (grant_of j).keeper v w in
          let t : x.tag ≡ y.tag = same_tag k j a x y (grant_of k).keeper (grant_of j).keeper v w in
          (d ∙ ap Ok (same_grant x y c t), v.last ∙ c ∙ sym w.last)

      by : (b : Result Grant Refused) → (grant_of j).answer ≡ b → ((grant_of k).answer ≡ b) × ((grant_of k).keeper.last ≡ (grant_of j).keeper.last)
      by (Ok y) e = let x = given (grant_of k).answer (n (Ok y) e) in both x.0 y x.1 e
      by (Err r) e =
          let d : (grant_of k).answer ≡ Err r = denied (grant_of k).answer r (n (Err r) e) in
          (d, rw ((refused_leaves k r).1 d, (refused_leaves j r).1 e) a.last)

  grant_alike : Alike (grant_of k).keeper (grant_of j).keeper
  grant_alike = record { waits = waits; last = grant_both.1 }
    where
      same : (d : ℕ) → to_core d (grant_of k).answer ≡ to_core d (grant_of j).answer
      same d = ap (to_core d) grant_both.0

      waits : (d : ℕ) → d < 4 → waiting (grant_of k).keeper d ≡ waiting (grant_of j).keeper d
      waits d h = cancel (to_core d (grant_of k).answer) (waiting (grant_of k).keeper d) (waiting (grant_of j).keeper d)
          (grant_waits k g d ∙ a.waits d h ∙ rw (same d) (sym (grant_waits j z d)))

-- ---- any calls

pub unseen : Unseen
unfolding called_all answered_all
unseen k j g z a [] = (refl, a)
unseen k j g z a (adding core tag ∷ xs) =
    let on = unseen (add_of k core tag).keeper (add_of j core tag).keeper ((kept_sound.1 k g).0 core tag) ((kept_sound.1 j z).0 core tag) (add_alike k j g z a core tag) xs in
    (rw (add_same k j g z a core tag, on.0), on.1)
unseen k j g z a (granting ∷ xs) =
    let on = unseen (grant_of k).keeper (grant_of j).keeper (kept_sound.1 k g).1 (kept_sound.1 j z).1 (grant_alike k j g z a) xs in
    (rw ((grant_both k j g z a).0, on.0), on.1)
