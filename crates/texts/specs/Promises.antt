-- What is promised of the texts: every text has room in 48 bytes.
use Rattle.std.specs.Prelude.{ℕ, ◌<◌, length}
use Rattle.texts.specs.Text.{text_of}

-- 48 bytes have room for every text and its NUL
abbrev pub TextFits : Type 0
TextFits = (n : ℕ) → length (text_of n) < 48
