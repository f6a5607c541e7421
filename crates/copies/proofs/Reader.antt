-- The reader's refusals, exactly, and the copy that it answers.
use mathlib.Core.Bool.{Bool, true, false}
use mathlib.Core.List.{List}
use mathlib.Core.Path.{◌≡◌, refl, sym, ap, subst, ◌∙◌}
use Prim.Native.Nat.{ℕ, zero, suc, ◌≤◌, ◌<◌}
use native.Mathlib.Omega.{arith}
use lib.Dec.{ltb}
use lib.ListN.{length}
use borrow.Author.Tests.{ltb-true, ltb-false, le-ltb}
use Rattle.part.proofs.Choice.{cond_keep}
use Rattle.sheet.proofs.Exact.{true_so, false_not}
use Rattle.copies.specs.Copies.{copy_at, Holds, holds, sizes_in, found, read_of, figures}
use Rattle.copies.specs.Promises.{ReadLine, too_short, none_holds, one_holds, ReaderExactly, First, FirstHolds}
use Rattle.copies.specs.declared.Found.{Found}
use Rattle.copies.specs.declared.ReadError.{ReadError}
use Rattle.copies.specs.declared.ReadError.TheVariants.{NoCopy, TooShort}
use Rattle.std.proofs.Common.{Result, Ok, Err}
use Rattle.copies.specs.declared.Sizes.{Sizes}
use Rattle.copies.proofs.Holding.{holds_exactly}

-- ---- how the code finds the copy

-- copy k holds and none before it
pub read_found :
    (l : List ℕ) (k : ℕ) → 768 ≤ length l → k < 3 → holds (copy_at k l) ≡ true → ((j : ℕ) → j < k → holds (copy_at j l) ≡ false) →
    Ok (found k (sizes_in (copy_at k l))) ≡ read_of l
unfolding read_of
read_found l zero h kk t u = rw (le-ltb (length l) 768 h, t)
read_found l (suc zero) h kk t u = rw (le-ltb (length l) 768 h, u 0 (omega arith), t)
read_found l (suc (suc zero)) h kk t u = rw (le-ltb (length l) 768 h, u 0 (omega arith), u 1 (omega arith), t)
read_found l (suc (suc (suc k))) h kk t u = absurd (omega arith)

-- none holds
pub read_none : (l : List ℕ) → 768 ≤ length l → ((j : ℕ) → j < 3 → holds (copy_at j l) ≡ false) → Err NoCopy ≡ read_of l
unfolding read_of
read_none l h u = rw (le-ltb (length l) 768 h, u 0 (omega arith), u 1 (omega arith), u 2 (omega arith))

-- the three ways that a reading can go
data Reads (l : List ℕ) : Result Found ReadError → Type 0 where
  short : length l < 768 → Reads l (Err TooShort)
  none : 768 ≤ length l → ((k : ℕ) → k < 3 → ¬ Holds (copy_at k l)) → Reads l (Err NoCopy)
  first : 768 ≤ length l → (k : ℕ) → k < 3 → Holds (copy_at k l) → ((j : ℕ) → j < k → ¬ Holds (copy_at j l)) → Reads l (Ok (found k (sizes_in (copy_at k l))))

does : (p : List ℕ) → holds p ≡ true → Holds p
does p = true_so (holds p) (holds_exactly p)

does_not : (p : List ℕ) → holds p ≡ false → ¬ Holds p
does_not p = false_not (holds p) (holds_exactly p)

ways : (l : List ℕ) → Reads l (read_of l)
unfolding read_of
ways l =
    cond_keep (Reads l) (ltb (length l) 768) (λ e. short (ltb-true (length l) 768 e))
    (λ e. let h : 768 ≤ length l = ltb-false (length l) 768 e in
    cond_keep (Reads l) (holds (copy_at 0 l)) (λ a. first h 0 (omega arith) (does (copy_at 0 l) a) (λ j k. absurd (omega arith)))
    (λ a. let n₀ = does_not (copy_at 0 l) a in
    cond_keep (Reads l) (holds (copy_at 1 l)) (λ b. first h 1 (omega arith) (does (copy_at 1 l) b) (below_1 n₀))
    (λ b. let n₁ = does_not (copy_at 1 l) b in
    cond_keep (Reads l) (holds (copy_at 2 l)) (λ c. first h 2 (omega arith) (does (copy_at 2 l) c) (below_2 n₀ n₁))
    (λ c. none h (below_3 n₀ n₁ (does_not (copy_at 2 l) c))))))
  where
    below_1 : ¬ Holds (copy_at 0 l) → (j : ℕ) → j < 1 → ¬ Holds (copy_at j l)
    below_1 n₀ zero h = n₀
    below_1 n₀ (suc j) h = absurd (omega arith)

    below_2 : ¬ Holds (copy_at 0 l) → ¬ Holds (copy_at 1 l) → (j : ℕ) → j < 2 → ¬ Holds (copy_at j l)
    below_2 n₀ n₁ zero h = n₀
    below_2 n₀ n₁ (suc zero) h = n₁
    below_2 n₀ n₁ (suc (suc j)) h = absurd (omega arith)

    below_3 : ¬ Holds (copy_at 0 l) → ¬ Holds (copy_at 1 l) → ¬ Holds (copy_at 2 l) → (j : ℕ) → j < 3 → ¬ Holds (copy_at j l)
    below_3 n₀ n₁ n₂ zero h = n₀
    below_3 n₀ n₁ n₂ (suc zero) h = n₁
    below_3 n₀ n₁ n₂ (suc (suc zero)) h = n₂
    below_3 n₀ n₁ n₂ (suc (suc (suc j))) h = absurd (omega arith)

line : {l : List ℕ} {f : Result Found ReadError} → Reads l f → ReadLine l (figures f).refusal
line (short h) = too_short h
line (none h u) = none_holds h u
line (first h k kk p u) = one_holds h k kk p

-- each line gets its number
gives : {l : List ℕ} {f : Result Found ReadError} {n : ℕ} → Reads l f → ReadLine l n → (figures f).refusal ≡ n
gives (short h) (too_short g) = refl
gives (short h) (none_holds g v) = absurd (omega arith)
gives (short h) (one_holds g j jj q) = absurd (omega arith)
gives (none h u) (too_short g) = absurd (omega arith)
gives (none h u) (none_holds g v) = refl
gives (none h u) (one_holds g j jj q) = absurd (u j jj q)
gives (first h k kk p u) (too_short g) = absurd (omega arith)
gives (first h k kk p u) (none_holds g v) = absurd (v k kk p)
gives (first h k kk p u) (one_holds g j jj q) = refl

pub reader_exactly : ReaderExactly
reader_exactly l n = (λ e. subst (ReadLine l) e (line (ways l)), λ x. gives (ways l) x)

-- ---- the first copy that holds

firsts : {l : List ℕ} {f : Result Found ReadError} (k : ℕ) (s : Sizes) → Reads l f → f ≡ Ok (found k s) → First l k s
firsts k s (short h) e = absurd (let z : ◌≡◌ {A = ℕ} 0 1 = cc in omega arith)
firsts k s (none h u) e = absurd (let z : ◌≡◌ {A = ℕ} 0 1 = cc in omega arith)
firsts {l} k s (first h j jj p u) e =
    let q : j ≡ k = ap (λ (r : Result Found ReadError). (figures r).copy) e in
    let r : sizes_in (copy_at j l) ≡ s = ap (λ (r : Result Found ReadError). (figures r).sizes) e in
    record {
      one_of_three = rw q at jj;
      holds_it = subst (λ (i : ℕ). Holds (copy_at i l)) q p;
      none_before = λ i ii. u i (rw (sym q) at ii);
      numbers = sym r ∙ subst (λ (i : ℕ). sizes_in (copy_at j l) ≡ sizes_in (copy_at i l)) q refl;
    }

pub first_holds : FirstHolds
first_holds l k s e = firsts k s (ways l) e

-- and a copy that is the first to hold is answered
answered :
    {l : List ℕ} {f : Result Found ReadError} (k : ℕ) → Reads l f → 768 ≤ length l → k < 3 → Holds (copy_at k l) → ((j : ℕ) → j < k → ¬ Holds (copy_at j l)) →
    f ≡ Ok (found k (sizes_in (copy_at k l)))
answered k (short h) g kk p u = absurd (omega arith)
answered k (none h v) g kk p u = absurd (v k kk p)
answered {l} k (first h j jj q v) g kk p u = go (ltb j k) (ltb k j) refl refl
  where
    go : (s t : Bool) → ltb j k ≡ s → ltb k j ≡ t → ◌≡◌ {A = Result Found ReadError} (Ok (found j (sizes_in (copy_at j l)))) (Ok (found k (sizes_in (copy_at k l))))
    go true t e f = absurd (u j (ltb-true j k e) q)
    go false true e f = absurd (v k (ltb-true k j f) p)
    go false false e f = let i : j ≡ k = omega (arith, ltb-false j k e, ltb-false k j f) in rw i refl

pub first-answered :
    (l : List ℕ) (k : ℕ) → 768 ≤ length l → k < 3 → Holds (copy_at k l) → ((j : ℕ) → j < k → ¬ Holds (copy_at j l)) →
    read_of l ≡ Ok (found k (sizes_in (copy_at k l)))
first-answered l k = answered k (ways l)
