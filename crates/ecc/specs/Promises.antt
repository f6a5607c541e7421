-- What is promised of mending, for every page of a sound part: each byte, and each value of ECCS, in the request's words.
use Rattle.std.specs.Prelude.{List, ◌↔◌, ◌≡◌, ℕ, ◌≤◌, ◌<◌, T, length, get_or}
use Rattle.std.specs.Int.Bits.{bit_xor}
use Rattle.part.specs.Part.{page, Sound}
use Rattle.part.specs.declared.Geometry.{Geometry}
use Rattle.ecc.specs.Ecc.{sectors, in_sector, marked, worst, eccs, mended}

-- every sector of a page has at most n marked bits; and some sector has n or more
abbrev pub AllWithin : Geometry → (ℕ → ℕ) → ℕ → Type 0
AllWithin g marks n = (j : ℕ) → j < sectors g → marked g marks j ≤ n

pub record SomeFrom (g : Geometry) (marks : ℕ → ℕ) (n : ℕ) : Type 0 where
  pub sector : ℕ
  pub there : sector < sectors g
  pub many : n ≤ marked g marks sector

-- ECCS is each of its values exactly when its condition on the sectors holds
pub record EccsExactly (g : Geometry) (marks : ℕ → ℕ) (v : ℕ) : Type 0 where
  pub is_000 : (v ≡ 0) ↔ AllWithin g marks 0
  pub is_001 : (v ≡ 1) ↔ (AllWithin g marks 3 × SomeFrom g marks 1)
  pub is_011 : (v ≡ 3) ↔ (AllWithin g marks 6 × SomeFrom g marks 4)
  pub is_101 : (v ≡ 5) ↔ (AllWithin g marks 8 × SomeFrom g marks 7)
  pub is_010 : (v ≡ 2) ↔ SomeFrom g marks 9

abbrev pub EccsTold : Type 0
EccsTold = (g : Geometry) (marks : ℕ → ℕ) → EccsExactly g marks (eccs (worst g marks))

-- a column lies in a sector with at most 8 marked bits; and in none such, being in another or in none
pub record InMended (g : Geometry) (marks : ℕ → ℕ) (c : ℕ) : Type 0 where
  pub sector : ℕ
  pub there : sector < sectors g
  pub has : T (in_sector g sector c)
  pub few : marked g marks sector ≤ 8

abbrev pub NotMended : Geometry → (ℕ → ℕ) → ℕ → Type 0
NotMended g marks c = (j : ℕ) → j < sectors g → T (in_sector g j c) → 8 < marked g marks j

-- each byte of a mended sector has its marked bits turned back, once; each other byte is as it was
abbrev pub BytesMended : Type 0
BytesMended =
    (g : Geometry) → Sound g → (marks : ℕ → ℕ) (cache : List ℕ) → length cache ≡ page g → (c : ℕ) → c < page g →
    (InMended g marks c → get_or (mended g marks cache) c 0 ≡ bit_xor (get_or cache c 0) (marks c))
    × (NotMended g marks c → get_or (mended g marks cache) c 0 ≡ get_or cache c 0)
