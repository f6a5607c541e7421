-- The test of a copy says what is asked of it.
use mathlib.Core.Bool.{Bool, true, false, ◌&&◌}
use mathlib.Core.List.{List, [], ◌∷◌}
use mathlib.Core.Path.{◌≡◌, refl, sym, ap, ◌∙◌}
use Prim.Native.Nat.{ℕ, ◌<◌}
use native.Mathlib.Omega.{arith}
use lib.Dec.{T, eqb, ltb, eqb→eq}
use lib.ListN.{length, take, get_or, get_or-eq_default}
use lib.Seq.{get_or-take}
use borrow.Author.Tests.{ltb-true, ltb-false, eq-eqb, eqb-true, eqb-false, ne_eqb}
use Rattle.part.proofs.Choice.{true_T, and_l, and_r, and_in}
use Rattle.std.specs.List.{starts_with}
use Rattle.sheet.specs.Numbers.{stretch}
use Rattle.copies.specs.Copies.{signed, checked}
use Rattle.copies.specs.Promises.{HoldsExactly}

-- a place where a byte is not 0 is within the list
within : (l : List ℕ) (i : ℕ) → (get_or l i 0 ≡ 0 → ⊥) → i < length l
within l i ne = go (ltb i (length l)) refl
  where
    go : (t : Bool) → ltb i (length l) ≡ t → i < length l
    go true e = ltb-true i (length l) e
    go false e = absurd (ne (get_or-eq_default l 0 {n = i} (ltb-false i (length l) e)))

first_four : (l : List ℕ) → 3 < length l → take 4 l ≡ get_or l 0 0 ∷ get_or l 1 0 ∷ get_or l 2 0 ∷ get_or l 3 0 ∷ []
first_four [] h = absurd (omega arith)
first_four (a ∷ []) h = absurd (omega arith)
first_four (a ∷ b ∷ []) h = absurd (omega arith)
first_four (a ∷ b ∷ c ∷ []) h = absurd (omega arith)
first_four (a ∷ b ∷ c ∷ d ∷ l) h = refl

module _ (p : List ℕ) where
  to_signature : T (signed p) → stretch 0 4 p ≡ 0x4F ∷ 0x4E ∷ 0x46 ∷ 0x49 ∷ []
  unfolding signed
  to_signature t =
      let a = eqb (get_or p 0 0) 0x4F in
      let b = eqb (get_or p 1 0) 0x4E in
      let c = eqb (get_or p 2 0) 0x46 in
      let d = eqb (get_or p 3 0) 0x49 in
      let e₀ : get_or p 0 0 ≡ 0x4F = eqb→eq _ _ (and_l a b (and_l (a && b) c (and_l (a && b && c) d t))) in
      let e₁ : get_or p 1 0 ≡ 0x4E = eqb→eq _ _ (and_r a b (and_l (a && b) c (and_l (a && b && c) d t))) in
      let e₂ : get_or p 2 0 ≡ 0x46 = eqb→eq _ _ (and_r (a && b) c (and_l (a && b && c) d t)) in
      let e₃ : get_or p 3 0 ≡ 0x49 = eqb→eq _ _ (and_r (a && b && c) d t) in
      first_four p (within p 3 (λ z. omega (arith, z, e₃))) ∙ rw (e₀, e₁, e₂, e₃) refl

  from_signature : stretch 0 4 p ≡ 0x4F ∷ 0x4E ∷ 0x46 ∷ 0x49 ∷ [] → T (signed p)
  unfolding signed
  from_signature e =
      let at : (i : ℕ) → i < 4 → get_or p i 0 ≡ get_or (0x4F ∷ 0x4E ∷ 0x46 ∷ 0x49 ∷ []) i 0 = λ i h. sym (get_or-take 4 p i 0 h) ∙ ap (λ (l : List ℕ). get_or l i 0) e in
      rw (at 0 (omega arith), at 1 (omega arith), at 2 (omega arith), at 3 (omega arith)) tt

-- how the code asks for the signature
and_four : (a b c d : Bool) → a && (b && (c && (d && true))) ≡ a && b && c && d
and_four false b c d = refl
and_four true false c d = refl
and_four true true false d = refl
and_four true true true false = refl
and_four true true true true = refl

eqb_swap : (a b : ℕ) → eqb a b ≡ eqb b a
eqb_swap a b = go (eqb a b) refl
  where
    go : (t : Bool) → eqb a b ≡ t → t ≡ eqb b a
    go true e = sym (eq-eqb b a (sym (eqb-true a b e)))
    go false e = sym (ne_eqb b a (λ z. eqb-false a b e (sym z)))

pub signed_start : (p : List ℕ) → 3 < length p → starts_with eqb p (0x4F ∷ 0x4E ∷ 0x46 ∷ 0x49 ∷ []) ≡ signed p
unfolding signed
signed_start [] h = absurd (omega arith)
signed_start (a ∷ []) h = absurd (omega arith)
signed_start (a ∷ b ∷ []) h = absurd (omega arith)
signed_start (a ∷ b ∷ c ∷ []) h = absurd (omega arith)
signed_start (a ∷ b ∷ c ∷ d ∷ l) h = rw (eqb_swap 0x4F a, eqb_swap 0x4E b, eqb_swap 0x46 c, eqb_swap 0x49 d) (and_four (eqb a 0x4F) (eqb b 0x4E) (eqb c 0x46) (eqb d 0x49))

pub holds_exactly : HoldsExactly
unfolding checked
holds_exactly p = (
  λ t. record { signature = to_signature p (and_l (signed p) (checked p) t); check = eqb→eq _ _ (and_r (signed p) (checked p) t) },
  λ h. and_in (signed p) (checked p) (from_signature p h.signature) (true_T _ (eq-eqb _ _ h.check)),
)
