-- One damaged byte is seen: before 254 the check is another, and from 254 on the stored one is.
use mathlib.Core.Bool.{Bool, true, false}
use mathlib.Core.List.{List, [], ◌∷◌}
use mathlib.Core.Path.{◌≡◌, refl, sym, ap, ◌∙◌}
use Prim.Native.Nat.{ℕ, zero, suc, ◌+◌, ◌-◌, ◌≤◌, ◌<◌}
use native.Mathlib.Omega.{arith}
use lib.Dec.{ltb}
use lib.ListN.{length, take, drop, get_or, set, length-drop}
use lib.Seq.{take-set-lt, take-set-le, drop-set-lt, drop-set-add, get_or-take, get_or-drop, length-take-le}
use borrow.Author.Tests.{ltb-true, ltb-false}
use Rattle.crc.specs.Crc.{crc_of}
use Rattle.crc.specs.Promises.{Bytes}
use Rattle.crc.proofs.Noticing.{noticed}
use Rattle.sheet.specs.Numbers.{number_in, stretch}
use Rattle.copies.specs.Copies.{Holds}
use Rattle.copies.specs.Promises.{DamageSeen}
use Rattle.copies.proofs.Values.{stretch_bytes}

-- two bytes of which one is changed are another number
two_changed : (l : List ℕ) (j b : ℕ) → length l ≡ 2 → j < 2 → number_in (take 2 (set l j b)) ≡ number_in (take 2 l) → b ≡ get_or l j 0
unfolding number_in
two_changed [] j b h k e = absurd (omega arith)
two_changed (x ∷ []) j b h k e = absurd (omega arith)
two_changed (x ∷ y ∷ []) zero b h k e = omega arith
two_changed (x ∷ y ∷ []) (suc zero) b h k e = omega arith
two_changed (x ∷ y ∷ []) (suc (suc j)) b h k e = absurd (omega arith)
two_changed (x ∷ y ∷ z ∷ l) j b h k e = absurd (omega arith)

module _ (p : List ℕ) (bs : Bytes p) (long : length p ≡ 256) (held : Holds p) (i b : ℕ) (hb : b < 256) (other : ¬ (b ≡ get_or p i 0)) where
  in_table : i < 254 → ¬ Holds (set p i b)
  in_table h x =
      let s = stretch 0 254 p in
      let stored : number_in (stretch 254 2 (set p i b)) ≡ number_in (stretch 254 2 p) = ap (λ (l : List ℕ). number_in (take 2 l)) (drop-set-lt 254 p i b h) in
      let same : crc_of (set (take 254 p) i b) ≡ crc_of (take 254 p) =
      ap crc_of (sym (take-set-lt 254 p i b h)) ∙ sym x.check ∙ stored ∙ held.check in
      noticed (take 254 p) (stretch_bytes p bs 0 254) i b (omega (arith, length-take-le 254 p (omega arith))) hb (λ e. other (e ∙ get_or-take 254 p i 0 h)) same

  in_check : 254 ≤ i → i < 256 → ¬ Holds (set p i b)
  in_check h k x =
      let j = i - 254 in
      let at : 254 + (i - 254) ≡ i = omega arith in
      let moved : drop 254 (set p i b) ≡ set (drop 254 p) (i - 254) b = rw at at (drop-set-add 254 p (i - 254) b) in
      let same : number_in (take 2 (set (drop 254 p) (i - 254) b)) ≡ number_in (take 2 (drop 254 p)) =
      ap (λ (l : List ℕ). number_in (take 2 l)) (sym moved) ∙ x.check ∙ ap crc_of (take-set-le 254 p i b h) ∙ sym held.check in
      other (two_changed (drop 254 p) (i - 254) b (rw (length-drop, long)) (omega arith) same ∙ get_or-drop 254 p (i - 254) 0 ∙ rw at refl)

pub damage_seen : DamageSeen
damage_seen p bs long held i b hi hb other = go (ltb i 254) refl
  where
    go : (t : Bool) → ltb i 254 ≡ t → ¬ Holds (set p i b)
    go true e = in_table p bs long held i b hb other (ltb-true i 254 e)
    go false e = in_check p bs long held i b hb other (ltb-false i 254 e) hi
