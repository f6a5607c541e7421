-- What waits in a queue: its length, one more at the back, and without its front.
use mathlib.Core.List.{List, [], ◌∷◌, ◌++◌}
use mathlib.Core.Path.{◌≡◌, refl, sym, ap, ◌∙◌}
use Prim.Native.Nat.{ℕ, zero, suc, ◌+◌, ◌-◌, ◌%◌, ◌<◌}
use native.Mathlib.Omega.{arith}
use lib.ListN.{length, get_or, set}
use lib.Seq.{get_or-set_same, get_or-set_other}
use Rattle.keeper.specs.declared.Queue.{Queue}
use Rattle.keeper.specs.Keeper.{tags_from, waiting_in, put_of, front_of, rest_of}

-- as many wait as the length says
pub tags_length : (n : ℕ) (tags : List ℕ) (place : ℕ) → length (tags_from tags place n) ≡ n
unfolding tags_from
tags_length zero tags place = refl
tags_length (suc n) tags place = ap suc (tags_length n tags ((place + 1) % 8))

-- none where the length is 0
pub none_wait : (q : Queue) → q.length ≡ 0 → waiting_in q ≡ []
unfolding tags_from
none_wait q e = rw e

-- and some where it is not
pub some_wait : (q : Queue) → 0 < q.length → ¬ (waiting_in q ≡ [])
some_wait q l e =
    let h : q.length ≡ 0 = sym (tags_length q.length q.tags q.head) ∙ ap length e in
    omega (arith, h)

-- the front, and what stands behind it
split : (n : ℕ) (tags : List ℕ) (place : ℕ) → 0 < n → tags_from tags place n ≡ get_or tags place 0 ∷ tags_from tags ((place + 1) % 8) (n - 1)
unfolding tags_from
split zero tags place l = let n : ⊥ = omega arith in absurd n
split (suc n) tags place l = let e : suc n - 1 ≡ n = omega arith in rw e

pub front_leaves : (q : Queue) → 0 < q.length → waiting_in q ≡ front_of q ∷ waiting_in (rest_of q)
front_leaves q l = split q.length q.tags q.head l

-- a place is not the one that lies fewer than eight further on
apart : (p n : ℕ) → p < 8 → 0 < n → n < 8 → p ≡ (p + n) % 8 → ⊥
apart p n a b c e = omega arith

-- a tag put behind n tags, at the place w
put_behind : (n : ℕ) (tags : List ℕ) (place tag w : ℕ) → w ≡ (place + n) % 8 → length tags ≡ 8 → place < 8 → n < 8 → tags_from (set tags w tag) place (suc n) ≡ tags_from tags place n ++ (tag ∷ [])
unfolding tags_from
put_behind zero tags place tag w q e l m =
    let p : w ≡ place = omega arith in
    rw (p, get_or-set_same tags place tag 0 (omega arith))
put_behind (suc n) tags place tag w q e l m =
    let p : w ≡ ((place + 1) % 8 + n) % 8 = omega arith in
    let d : get_or (set tags w tag) place 0 ≡ get_or tags place 0 = get_or-set_other tags w place tag 0 (λ (x : place ≡ w). apart place (suc n) l (omega arith) m (x ∙ q)) in
    rw d (ap (λ (x : List ℕ). get_or tags place 0 ∷ x) (put_behind n tags ((place + 1) % 8) tag w p e (omega arith) (omega arith)))

pub put_back : (q : Queue) (tag : ℕ) → length q.tags ≡ 8 → q.head < 8 → q.length < 8 → waiting_in (put_of q tag) ≡ waiting_in q ++ (tag ∷ [])
put_back q tag e h l =
    let s : q.length + 1 ≡ suc q.length = omega arith in
    rw s (put_behind q.length q.tags q.head tag ((q.head + q.length) % 8) refl e h l)
