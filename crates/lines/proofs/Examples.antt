-- Lines of document 01's example, and numbers at the ends of their lengths, by computation.
use mathlib.Core.List.{[], ◌∷◌}
use Rattle.std.specs.Prelude.{Some, None}
use mathlib.Core.Path.{◌≡◌, refl}
use Rattle.buslog.specs.declared.Record.TheVariants.{Select, Shift, Deselect, Units}
use Rattle.lines.specs.Lines.{digits, places, decimal, hex_digit, hex, fields_of, line_of, end_of}

-- 0 W -- 01
line_0 : line_of 0 (Units 19) None 0x01 ≡ 0x30 ∷ 0x20 ∷ 0x57 ∷ 0x20 ∷ 0x2D ∷ 0x2D ∷ 0x20 ∷ 0x30 ∷ 0x31 ∷ 0x0A ∷ []
unfolding digits places decimal hex_digit hex fields_of line_of
line_0 = refl

-- 1 S -- 01
line_1 : line_of 1 Select None 0x01 ≡ 0x31 ∷ 0x20 ∷ 0x53 ∷ 0x20 ∷ 0x2D ∷ 0x2D ∷ 0x20 ∷ 0x30 ∷ 0x31 ∷ 0x0A ∷ []
unfolding digits places decimal hex_digit hex fields_of line_of
line_1 = refl

-- 2 B FF 01
line_2 : line_of 2 (Shift 0x0F) (Some 0xFF) 0x01 ≡ 0x32 ∷ 0x20 ∷ 0x42 ∷ 0x20 ∷ 0x46 ∷ 0x46 ∷ 0x20 ∷ 0x30 ∷ 0x31 ∷ 0x0A ∷ []
unfolding digits places decimal hex_digit hex fields_of line_of
line_2 = refl

-- 7 D -- 00
line_7 : line_of 7 Deselect None 0x00 ≡ 0x37 ∷ 0x20 ∷ 0x44 ∷ 0x20 ∷ 0x2D ∷ 0x2D ∷ 0x20 ∷ 0x30 ∷ 0x30 ∷ 0x0A ∷ []
unfolding digits places decimal hex_digit hex fields_of line_of
line_7 = refl

-- end 0 8
line_end : end_of 0 8 ≡ 0x65 ∷ 0x6E ∷ 0x64 ∷ 0x20 ∷ 0x30 ∷ 0x20 ∷ 0x38 ∷ 0x0A ∷ []
unfolding digits places decimal end_of
line_end = refl

-- on both sides of each power of ten; the most records that a log has; the largest number
decimal_9 : decimal 9 ≡ 0x39 ∷ []
unfolding digits places decimal
decimal_9 = refl

decimal_10 : decimal 10 ≡ 0x31 ∷ 0x30 ∷ []
unfolding digits places decimal
decimal_10 = refl

decimal_99 : decimal 99 ≡ 0x39 ∷ 0x39 ∷ []
unfolding digits places decimal
decimal_99 = refl

decimal_100 : decimal 100 ≡ 0x31 ∷ 0x30 ∷ 0x30 ∷ []
unfolding digits places decimal
decimal_100 = refl

decimal_999 : decimal 999 ≡ 0x39 ∷ 0x39 ∷ 0x39 ∷ []
unfolding digits places decimal
decimal_999 = refl

decimal_1000 : decimal 1000 ≡ 0x31 ∷ 0x30 ∷ 0x30 ∷ 0x30 ∷ []
unfolding digits places decimal
decimal_1000 = refl

decimal_4096 : decimal 4096 ≡ 0x34 ∷ 0x30 ∷ 0x39 ∷ 0x36 ∷ []
unfolding digits places decimal
decimal_4096 = refl

decimal_9999 : decimal 9999 ≡ 0x39 ∷ 0x39 ∷ 0x39 ∷ 0x39 ∷ []
unfolding digits places decimal
decimal_9999 = refl

decimal_10000 : decimal 10000 ≡ 0x31 ∷ 0x30 ∷ 0x30 ∷ 0x30 ∷ 0x30 ∷ []
unfolding digits places decimal
decimal_10000 = refl

decimal_65535 : decimal 65535 ≡ 0x36 ∷ 0x35 ∷ 0x35 ∷ 0x33 ∷ 0x35 ∷ []
unfolding digits places decimal
decimal_65535 = refl
