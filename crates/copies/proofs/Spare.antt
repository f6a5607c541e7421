-- Three copies, of which one may lose a byte: the first is found, or else the second.
use mathlib.Core.Bool.{Bool, true, false}
use mathlib.Core.List.{List}
use mathlib.Core.Path.{◌≡◌, refl, sym, ap, subst, ◌∙◌}
use Prim.Native.Nat.{ℕ, zero, suc, ◌≤◌, ◌<◌}
use native.Mathlib.Omega.{arith}
use lib.Dec.{eqb, ltb}
use lib.ListN.{length, take, get_or, set, length-set}
use lib.Seq.{take-set-lt, take-set-le, drop-set-lt, get_or-take, set-get_or, length-take-le}
use borrow.Author.Tests.{ltb-true, ltb-false, eqb-true, eqb-false}
use Rattle.part.specs.Part.{Sound}
use Rattle.part.specs.declared.Geometry.{Geometry}
use Rattle.crc.specs.Promises.{Bytes}
use Rattle.sheet.specs.Page.{page_of}
use Rattle.copies.specs.Copies.{copy_at, Holds, sizes_in, sizes_of, found, read_of, figures}
use Rattle.copies.specs.Promises.{OneByteLost}
use Rattle.std.proofs.Common.{Ok}
use Rattle.copies.proofs.Back.{page_holds, own_numbers}
use Rattle.copies.proofs.Damage.{damage_seen}
use Rattle.copies.proofs.Reader.{first-answered}
use Rattle.copies.proofs.Values.{stretch_bytes}

-- the part's numbers are told
Tells : Geometry → List ℕ → Type 0
Tells g l = ((figures (read_of l)).refusal ≡ 0) × ((figures (read_of l)).sizes ≡ sizes_of g)

module _ (g : Geometry) (sound : Sound g) where
  -- where a copy is the part's page and none before it holds
  told_by : (l : List ℕ) (k : ℕ) → 768 ≤ length l → k < 3 → copy_at k l ≡ page_of g → ((j : ℕ) → j < k → ¬ Holds (copy_at j l)) → Tells g l
  unfolding Tells
  told_by l k long kk e none =
      let read : read_of l ≡ Ok (found k (sizes_in (copy_at k l))) = first-answered l k long kk (subst Holds (sym e) (page_holds g)) none in
      rw read (refl, ap sizes_in e ∙ own_numbers g sound)

  module _ (l : List ℕ) (bs : Bytes l) (long : 768 ≤ length l) (three : (k : ℕ) → k < 3 → copy_at k l ≡ page_of g) (i b : ℕ) (hb : b < 256) where
    still_long : 768 ≤ length (set l i b)
    still_long = rw length-set long

    -- a byte behind copy 0: that copy is found
    behind : 256 ≤ i → Tells g (set l i b)
    behind h = told_by (set l i b) 0 still_long (omega arith) (take-set-le 256 l i b h ∙ three 0 (omega arith)) (λ j k. absurd (omega arith))

    -- a byte of copy 0 that becomes another: copy 1 is found
    damaged : i < 256 → ¬ (b ≡ get_or l i 0) → Tells g (set l i b)
    damaged h other =
        told_by (set l i b) 1 still_long (omega arith) (ap (take 256) (drop-set-lt 256 l i b h) ∙ three 1 (omega arith)) (first_lost (take-set-lt 256 l i b h))
      where
        lost : ¬ Holds (set (take 256 l) i b)
        lost =
            damage_seen (take 256 l) (stretch_bytes l bs 0 256) (length-take-le 256 l (omega arith)) (subst Holds (sym (three 0 (omega arith))) (page_holds g)) i b h hb
            (λ e. other (e ∙ get_or-take 256 l i 0 h))

        first_lost : take 256 (set l i b) ≡ set (take 256 l) i b → (j : ℕ) → j < 1 → ¬ Holds (copy_at j (set l i b))
        first_lost e zero k x = lost (subst Holds e x)
        first_lost e (suc j) k x = absurd (omega arith)

    -- or that stays what it was
    same : b ≡ get_or l i 0 → Tells g (set l i b)
    same e = subst (Tells g) (sym (ap (set l i) e ∙ set-get_or l i 0)) (told_by l 0 long (omega arith) (three 0 (omega arith)) (λ j k. absurd (omega arith)))

    whatever : Tells g (set l i b)
    whatever = go (ltb i 256) (eqb b (get_or l i 0)) refl refl
      where
        go : (s t : Bool) → ltb i 256 ≡ s → eqb b (get_or l i 0) ≡ t → Tells g (set l i b)
        go false t e f = behind (ltb-false i 256 e)
        go true true e f = same (eqb-true b (get_or l i 0) f)
        go true false e f = damaged (ltb-true i 256 e) (eqb-false b (get_or l i 0) f)

pub one_byte_lost : OneByteLost
unfolding Tells
one_byte_lost g sound l bs long three i b hb = whatever g sound l bs long three i b hb
