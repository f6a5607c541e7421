-- Numbers in bytes, low byte first.
use Rattle.std.specs.Prelude.{List, [], ◌∷◌, ℕ, zero, suc, ◌+◌, ◌*◌, ◌/◌, ◌%◌, take, drop}

-- the lowest k bytes of a number, low byte first
unfoldable pub low_first : ℕ → ℕ → List ℕ
low_first zero n = []
low_first (suc k) n = n % 256 ∷ low_first k (n / 256)

-- the number that bytes stand for, low byte first
unfoldable pub number_in : List ℕ → ℕ
number_in [] = 0
number_in (b ∷ bs) = b + 256 * number_in bs

-- so many bytes from a place on
abbrev pub stretch : ℕ → ℕ → List ℕ → List ℕ
stretch place size l = take size (drop place l)
