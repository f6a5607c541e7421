-- What was made reads back.
use mathlib.Core.List.{List, ◌++◌}
use mathlib.Core.Path.{◌≡◌, refl, sym, ap, subst, ◌∙◌}
use Prim.Native.Nat.{ℕ, zero, suc, ◌+◌, ◌*◌, ◌/◌, ◌^◌, ◌≤◌, ◌<◌}
use native.Mathlib.Nat.{mul-le-mul_right}
use native.Mathlib.Omega.{arith}
use lib.ListN.{length, take, drop, take-append-drop, length-append, length-drop}
use lib.Seq.{length-take-le, take_at, drop_at, take-append-le, drop-append-le}
use borrow.Author.Tests.{le-ltb}
use Rattle.part.specs.Part.{Sound, sound_part}
use Rattle.part.specs.declared.Geometry.{Geometry}
use Rattle.part.proofs.Laws.{sound_exactly}
use Rattle.crc.specs.Crc.{crc_of}
use Rattle.crc.proofs.Noticing.{sixteen_bits}
use Rattle.texts.specs.Text.{bytes as characters}
use Rattle.sheet.specs.Numbers.{low_first, number_in, stretch}
use Rattle.sheet.specs.Sheet.{bytes_in, sheet, laid}
use Rattle.sheet.specs.Page.{page_of, make_of}
use Rattle.sheet.proofs.Exact.{so_true}
use Rattle.sheet.proofs.Pages.{page_length}
use Rattle.sheet.proofs.Places.{pages_right}
use Rattle.copies.specs.Copies.{copy_at, Holds, sizes_in, sizes_of, found, read_of}
use Rattle.copies.specs.declared.Sizes.{Sizes}
use Rattle.copies.specs.Promises.{MadeReads}
use Rattle.std.proofs.Common.{Ok}
use Rattle.copies.proofs.Reader.{first-answered}

-- a number that fits its bytes is read from them
number_back : (k n : ℕ) → n < 256 ^ k → number_in (low_first k n) ≡ n
unfolding low_first number_in
number_back zero n h = omega arith
number_back (suc k) n h =
    let e : number_in (low_first k (n / 256)) ≡ n / 256 = number_back k (n / 256) (omega arith) in
    omega arith

-- ---- a part's page

module _ (g : Geometry) where
  pub page_holds : Holds (page_of g)
  unfolding sheet bytes_in
  page_holds = record {
    signature = (pages_right g).lines.0;
    check = ap number_in (pages_right g).check ∙ number_back 2 (crc_of (stretch 0 254 (page_of g))) (sixteen_bits (stretch 0 254 (page_of g)));
  }

  numbers_placed : (stretch 80 4 (page_of g) ≡ low_first 4 g.main) × (stretch 84 2 (page_of g) ≡ low_first 2 g.spare) × (stretch 92 4 (page_of g) ≡ low_first 4 g.pages) × (stretch 96 4 (page_of g) ≡ low_first 4 g.blocks)
  unfolding page_of laid sheet bytes_in low_first characters
  numbers_placed = (refl, refl, refl, refl)

  pub own_numbers : Sound g → sizes_in (page_of g) ≡ sizes_of g
  own_numbers s =
      let n = numbers_placed in
      let few : 1 * g.blocks ≤ g.pages * g.blocks = mul-le-mul_right g.blocks s.some_pages in
      rw (
        n.0,
        n.1,
        n.2,
        n.3,
        number_back 4 g.main (omega (arith, s.small_page)),
        number_back 2 g.spare (omega (arith, s.small_page)),
        number_back 4 g.pages (omega (arith, s.few_pages)),
        number_back 4 g.blocks (omega (arith, few, s.few_rows)),
      )

-- ---- a page laid at copy k

-- the copies before it are as they were, whatever is laid
copy_before : (a b : List ℕ) (j k : ℕ) → length a ≡ 256 * k → j < k → copy_at j (a ++ b) ≡ take 256 (drop (256 * j) a)
copy_before a b j k e h =
    rw (drop-append-le (256 * j) a b (omega arith), take-append-le 256 (drop (256 * j) a) b (omega (arith, length-drop (256 * j) a)))

module _ (l p rest : List ℕ) (k : ℕ) (long : 256 * k ≤ length l) where
  cut : length (take (256 * k) l) ≡ 256 * k
  cut = length-take-le (256 * k) l long

  copy_laid : length p ≡ 256 → copy_at k (take (256 * k) l ++ (p ++ rest)) ≡ p
  copy_laid e = rw (drop_at (take (256 * k) l) (p ++ rest) (256 * k) cut, take_at p rest 256 e)

  copy_kept : (j : ℕ) → j < k → copy_at j (take (256 * k) l ++ (p ++ rest)) ≡ copy_at j l
  copy_kept j h =
      copy_before (take (256 * k) l) (p ++ rest) j k cut h
      ∙ sym (copy_before (take (256 * k) l) (drop (256 * k) l) j k cut h)
      ∙ ap (copy_at j) (take-append-drop (256 * k) l)

made_is : (g : Geometry) → Sound g → (l : List ℕ) → 256 ≤ length l → (make_of g l).memory ≡ page_of g ++ drop 256 l
unfolding make_of
made_is g s l h = rw (so_true (sound_part g) (sound_exactly g) s, le-ltb (length l) 256 h)

pub made_reads : MadeReads
made_reads g s l long k kk none =
    let room : 256 * k + 256 ≤ length l = omega arith in
    let rest = drop 256 (drop (256 * k) l) in
    let m = take (256 * k) l ++ (page_of g ++ rest) in
    let whole : 768 ≤ length (take (256 * k) l ++ (page_of g ++ drop 256 (drop (256 * k) l))) =
    simp (length-append, length-drop) (omega (arith, length-take-le (256 * k) l (omega arith), page_length g)) in
    let laid-there : copy_at k m ≡ page_of g = copy_laid l (page_of g) rest k (omega arith) (page_length g) in
    ap (λ (x : List ℕ). read_of (take (256 * k) l ++ x)) (made_is g s (drop (256 * k) l) (rw length-drop (omega arith)))
    ∙ first-answered m k whole kk (subst Holds (sym laid-there) (page_holds g)) (λ j h x. none j h (subst Holds (copy_kept l (page_of g) rest k (omega arith) j h) x))
    ∙ ap (λ (p : List ℕ). Ok (found k (sizes_in p))) laid-there
    ∙ ap (λ (z : Sizes). Ok (found k z)) (own_numbers g s)
