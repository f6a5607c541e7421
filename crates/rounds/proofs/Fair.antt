-- A core that waits is granted in time, and at first the lowest is.
use Rattle.std.specs.Prelude.{Ok}
use mathlib.Core.Bool.{Bool, true, false}
use mathlib.Core.List.{List, [], ◌∷◌, ◌++◌, append_assoc}
use mathlib.Core.Path.{◌≡◌, refl, sym, ap, ◌∙◌}
use Prim.Native.Nat.{ℕ, ◌+◌, ◌-◌, ◌*◌, ◌%◌, ◌<◌, ◌≤◌}
use native.Mathlib.Omega.{arith}
use borrow.Author.Tests.{eq-eqb, ne_eqb, eqb-true, eqb-false}
use lib.Dec.{T, eqb}
use lib.ListN.{length}
use Rattle.keeper.specs.declared.Keeper.{Keeper}
use Rattle.keeper.specs.declared.Grant.{Grant}
use Rattle.keeper.specs.Keeper.{tags_from, waiting, waiting_in, sound_from, keeper_sound, new_keeper, add_of, first_from, grant_of}
use Rattle.keeper.specs.declared.Granted.{Granted}
use Rattle.keeper.specs.Promises.{one_waits, Good, InTurn}
use Rattle.keeper.proofs.Laws.{grant_exactly, kept_sound, grants_in_turn}
use Rattle.rounds.specs.Rounds.{Call, adding, granting, called_all, grants, grant_given, all_given, to_core, granted_to, for_core, only_adding}
use Rattle.rounds.specs.Promises.{Within, WithinFour, Comes, InTime, FourNeeded, FirstFromZero}
use Rattle.rounds.proofs.Answers.{given}
use Rattle.rounds.proofs.Order.{stays_good, add_waits, add_last}

-- ---- among some answers

-- the first of them
comes_now : (n core tag : ℕ) (g : Granted) (gs : List Granted) (x : Grant) → 0 < n → g.answer ≡ Ok x → x.core ≡ core → x.tag ≡ tag → Comes n core [] tag (g ∷ gs)
unfolding all_given granted_to
comes_now n core tag g gs x l r c t =
    record {
      within = record { earlier = []; this = g; later = gs; grant = x; splits = refl; soon = l; none_refused = tt; given = r; whose = c };
      which = t;
      behind = refl;
    }

-- after one more that is not refused
comes_later : (n m core tag : ℕ) (g : Granted) (gs : List Granted) (before all : List ℕ) → n < m → grant_given g ≡ true → to_core core g.answer ++ before ≡ all → Comes n core before tag gs →
    Comes m core all tag (g ∷ gs)
unfolding all_given granted_to
comes_later n m core tag g gs before all l r b c =
    record {
      within =
          record {
            earlier = g ∷ c.within.earlier;
            this = c.within.this;
            later = c.within.later;
            grant = c.within.grant;
            splits = ap (λ (l : List Granted). g ∷ l) c.within.splits;
            soon = omega (arith, c.within.soon);
            none_refused = rw r c.within.none_refused;
            given = c.within.given;
            whose = c.within.whose;
          };
      which = c.which;
      behind = ap (λ (l : List ℕ). to_core core g.answer ++ l) c.behind ∙ b;
    }

-- among more of them
comes_in : (n m core tag : ℕ) (gs : List Granted) (before : List ℕ) → n ≤ m → Comes n core before tag gs → Comes m core before tag gs
comes_in n m core tag gs before l c =
    record {
      within =
          record {
            earlier = c.within.earlier;
            this = c.within.this;
            later = c.within.later;
            grant = c.within.grant;
            splits = c.within.splits;
            soon = omega (arith, c.within.soon);
            none_refused = c.within.none_refused;
            given = c.within.given;
            whose = c.within.whose;
          };
      which = c.which;
      behind = c.behind;
    }

-- ---- how far a core's turn is from the last granted

-- from one to four
far : (l core : ℕ) → l < 4 → core < 4 → (l + ((core + 3 - l) % 4 + 1)) % 4 ≡ core
far l core h h' = omega arith

-- after the turn of the core that is m after the last granted
nearer : (l m d : ℕ) → m < d → ((l + m) % 4 + (d - m)) % 4 ≡ (l + d) % 4
nearer l m d h = omega arith

-- a core whose turn is d after the last granted, with a tag in its queue, is granted it within d and four for each tag before it
abbrev Due : ℕ → List Call → Type 0
Due core xs =
    (k : Keeper) → Good k → (d : ℕ) → 1 ≤ d → d ≤ 4 → (k.last + d) % 4 ≡ core → (before : List ℕ) (tag : ℕ) (after : List ℕ) → waiting k core ≡ before ++ (tag ∷ after) →
    d + 4 * length before ≤ length (grants k xs) → Comes (d + 4 * length before) core before tag (grants k xs)

-- where one waits a grant is not refused
grant_given_lem : (k : Keeper) → Good k → (core : ℕ) → core < 4 → ¬ (waiting k core ≡ []) → (x : Grant) × ((grant_of k).answer ≡ Ok x)
grant_given_lem k g core h w = given (grant_of k).answer ((grant_exactly k 0).1 (one_waits g.sound core (omega arith) w))

-- where a tag stands one waits
some : (ws before : List ℕ) (tag : ℕ) (after : List ℕ) → ws ≡ before ++ (tag ∷ after) → ¬ (ws ≡ [])
some ws [] tag after w z = let y : ⊥ = cc in absurd y
some ws (b ∷ bs) tag after w z = let y : ⊥ = cc in absurd y

-- one more grant
due_grant : (core : ℕ) (xs : List Call) → Due core xs → (x : Grant) (k : Keeper) → (grant_of k).answer ≡ Ok x → Good k → (d : ℕ) → 1 ≤ d → d ≤ 4 →
    (k.last + d) % 4 ≡ core → (before : List ℕ) (tag : ℕ) (after : List ℕ) → waiting k core ≡ before ++ (tag ∷ after) → d + 4 * length before ≤ length (grants k (granting ∷ xs)) →
    Comes (d + 4 * length before) core before tag (grants k (granting ∷ xs))
unfolding grants
due_grant core xs due x k r g d l u e before tag after w n = which (eqb x.core core) refl
  where
    t : grant_given (grant_of k) ≡ true
    t = rw r

    i : InTurn k x (grant_of k).keeper
    i = grants_in_turn k g.formed x r

    next : Good (grant_of k).keeper
    next = (kept_sound.1 k g).1

    -- the core's own turn
    own : x.core ≡ core → (before : List ℕ) → waiting k core ≡ before ++ (tag ∷ after) → d + 4 * length before ≤ length (grants k (granting ∷ xs)) →
        Comes (d + 4 * length before) core before tag (grants k (granting ∷ xs))
    own q [] w n =
        let f : waiting k core ≡ x.tag ∷ waiting (grant_of k).keeper core = rw q at i.front in
        comes_now (d + 4 * 0) core tag (grant_of k) (grants (grant_of k).keeper xs) x (omega arith) r q (cc)
    own q (b ∷ bs) w n =
        let f : waiting k core ≡ x.tag ∷ waiting (grant_of k).keeper core = rw q at i.front in
        let f₀ : x.tag ≡ b = cc in
        let f₁ : waiting (grant_of k).keeper core ≡ bs ++ (tag ∷ after) = cc in
        let a : to_core core (grant_of k).answer ++ bs ≡ b ∷ bs = rw (r, eq-eqb x.core core q, f₀) in
        let z : ((grant_of k).keeper.last + 4) % 4 ≡ core = omega (arith, i.last, i.whose) in
        comes_later (4 + 4 * length bs) (d + 4 * length (b ∷ bs)) core tag (grant_of k) (grants (grant_of k).keeper xs) bs (b ∷ bs) (omega arith) t a
        (due (grant_of k).keeper next 4 (omega arith) (omega arith) z bs tag after f₁ (omega arith))

    -- another's, which brings its own nearer
    other : ¬ (x.core ≡ core) → Comes (d + 4 * length before) core before tag (grants k (granting ∷ xs))
    other q =
        let m : ℕ = i.steps in
        let lm : 1 ≤ m = i.on in
        let a : to_core core (grant_of k).answer ++ before ≡ before = rw (r, ne_eqb x.core core q) in
        let f : waiting (grant_of k).keeper core ≡ waiting k core = ap waiting_in (i.others core (λ z. q (sym z))) in
        let p : ¬ (d < m) = λ h. some (waiting k core) before tag after w (rw e at (i.passed d l h)) in
        let p' : ¬ (m ≡ d) = λ h. q (i.whose ∙ ap (λ (s : ℕ). (k.last + s) % 4) h ∙ e) in
        let z : ((grant_of k).keeper.last + (d - m)) % 4 ≡ core = ap (λ (l : ℕ). (l + (d - m)) % 4) (i.last ∙ i.whose) ∙ nearer k.last m d (omega arith) ∙ e in
        comes_later (d - m + 4 * length before) (d + 4 * length before) core tag (grant_of k) (grants (grant_of k).keeper xs) before before (omega arith) t a
        (due (grant_of k).keeper next (d - m) (omega arith) (omega arith) z before tag after (f ∙ w) (omega arith))

    which : (b : Bool) → eqb x.core core ≡ b → Comes (d + 4 * length before) core before tag (grants k (granting ∷ xs))
    which true q = own (eqb-true x.core core q) before w n
    which false q = other (eqb-false x.core core q)

due : (core : ℕ) (xs : List Call) → Due core xs
unfolding grants
due core [] k g d l u e before tag after w n = let z : ⊥ = omega arith in absurd z
due core (adding c t ∷ xs) k g d l u e before tag after w n =
    due core xs (add_of k c t).keeper ((kept_sound.1 k g).0 c t) d l u (rw (add_last k g c t) e) before tag (after ++ for_core core c t (add_of k c t))
    (add_waits k g c t core ∙ ap (λ (l : List ℕ). l ++ for_core core c t (add_of k c t)) w ∙ append_assoc before (tag ∷ after) (for_core core c t (add_of k c t)))
    n
due core (granting ∷ xs) k g d l u e before tag after w n =
    let x = grant_given_lem k g core (omega arith) (some (waiting k core) before tag after w) in
    due_grant core xs (due core xs) x.0 k x.1 g d l u e before tag after w n

-- ---- in time, and within four

pub in_time : InTime
in_time k g xs core h before tag after w n =
    let d : ℕ = (core + 3 - k.last) % 4 + 1 in
    let hl : k.last < 4 = g.sound.last in
    comes_in (d + 4 * length before) (4 * (length before + 1)) core tag (grants k xs) before (omega arith)
    (due core xs k g d (omega arith) (omega arith) (far k.last core hl h) before tag after w (omega arith))

pub within_four : WithinFour
within_four k g xs core h w n = by (waiting k core) refl
  where
    by : (l : List ℕ) → waiting k core ≡ l → Within 4 core (grants k xs)
    by [] e = absurd (w e)
    by (tag ∷ after) e = (in_time k g xs core h [] tag after e n).within

-- ---- four is needed

pub four_needed : FourNeeded
unfolding tags_from keeper_sound sound_from add_of first_from grant_of grants all_given called_all
four_needed = (tt, refl, refl)

-- ---- at first

-- while nothing is granted, the core granted last stays
last_stays : (xs : List Call) (k : Keeper) → Good k → T (only_adding xs) → (called_all k xs).last ≡ k.last
unfolding called_all only_adding
last_stays [] k g o = refl
last_stays (adding core tag ∷ xs) k g o = last_stays xs (add_of k core tag).keeper ((kept_sound.1 k g).0 core tag) o ∙ add_last k g core tag
last_stays (granting ∷ xs) k g o = absurd o

pub first_from_zero : FirstFromZero
first_from_zero xs o x r d l =
    let k : Keeper = called_all new_keeper xs in
    let g : Good k = stays_good new_keeper kept_sound.0 xs in
    let i : InTurn k x (grant_of k).keeper = grants_in_turn k g.formed x r in
    let e : k.last ≡ 3 = last_stays xs new_keeper kept_sound.0 o in
    let z : (k.last + (d + 1)) % 4 ≡ d = omega (arith, i.whose, i.round) in
    rw z at (i.passed (d + 1) (omega arith) (omega (arith, i.whose, i.round)))
