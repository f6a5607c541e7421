-- The transfer of a sound machine: its count and column are bounded, and a busy array let it in. Chip select and bytes shifted keep it so.
use mathlib.Core.Bool.{Bool, true, false, not, ◌||◌}
use mathlib.Core.Path.{◌≡◌, refl}
use Prim.Native.Nat.{ℕ, ◌+◌, ◌≤◌, ◌<◌}
use native.Mathlib.Omega.{arith}
use lib.Dec.{T, leb, eqb}
use borrow.Author.Tests.{eqb-true, not-false}
use Rattle.part.specs.Part.{page}
use Rattle.part.specs.declared.Column.{Column}
use Rattle.part.specs.declared.Geometry.{Geometry}
use Rattle.part.proofs.Choice.{cond_keep}
use Rattle.registers.specs.Registers.{oip}
use Rattle.codes.specs.Codes.{no_byte, byte_of, instruction_of, open?, heard_as}
use Rattle.transfer.specs.Transfer.{is, fresh, selects, column_bytes, column_on, column_after, instructed, later, heard, shifted_in}
use Rattle.transfer.specs.declared.Bus.{Bus}
use Rattle.transfer.specs.declared.Transfer.{Transfer}
use Rattle.codes.specs.declared.Instruction.{Instruction}
use Rattle.soundness.specs.Soundness.{let_in}
use Rattle.kept.proofs.Tests.{some_T}

-- over the status register and the transfer alone
pub record OnBus (c : ℕ) (t : Transfer) : Type 0 where
  pub count_small : t.count ≤ 5
  pub column_small : t.column.0 ≤ 4096
  pub lets_in : T (oip c) → T t.selected → 1 ≤ t.count → T (let_in t)

-- ---- chip select

-- a transfer just begun, or just over
pub fresh_on_bus : (c : ℕ) (on : Bool) → OnBus c (fresh on)
fresh_on_bus c on = record { count_small = omega arith; column_small = omega arith; lets_in = λ o s n. absurd (omega arith) }

pub selects_on_bus : (c : ℕ) (x : Bus) → OnBus c x.transfer → OnBus c (selects x).transfer
unfolding selects
selects_on_bus c x h = cond_keep (OnBus c) x.transfer.selected (λ e. h) (λ e. fresh_on_bus c true)

-- ---- the first byte

-- let_in, over the instruction
abbrev open_as : Instruction → Bool
open_as i = eqb (byte_of i) 0x0F || eqb (byte_of i) 0x9F || eqb (byte_of i) 0xFF || eqb (byte_of i) no_byte

-- the three first bytes that are let in are heard as themselves
open_as_lem : (b : ℕ) → open? b ≡ true → T (open_as (instruction_of b))
unfolding instruction_of
open_as_lem b e = go (eqb b 0x0F) (eqb b 0x9F) refl refl e
  where
    go : (x y : Bool) → eqb b 0x0F ≡ x → eqb b 0x9F ≡ y → x || y || eqb b 0xFF ≡ true → T (open_as (instruction_of b))
    go true y p q e = rw (eqb-true b 0x0F p) tt
    go false true p q e = rw (eqb-true b 0x9F q) tt
    go false false p q e = rw (eqb-true b 0xFF e) tt

-- all others are ignored by a busy array
heard_open : (busy : Bool) (b : ℕ) → T busy → T (open_as (heard_as busy b))
heard_open true b t = cond_keep (λ (i : Instruction). T (open_as i)) (not (open? b)) (λ e. tt) (λ e. open_as_lem b (not-false (open? b) e))
heard_open false b t = absurd t

-- so what a first byte begins while busy is let in
instructed_on_bus : (c b : ℕ) (t : Transfer) → OnBus c t → OnBus c (instructed (oip c) b t)
instructed_on_bus c b t h = record { count_small = omega arith; column_small = h.column_small; lets_in = λ o s n. heard_open (oip c) b o }

-- ---- a later byte

abbrev Small : Column → Type 0
Small c = c.0 ≤ 4096

-- the next column stops at 4,096, and that of a read does too
on_small : (g : Geometry) (t : Transfer) → Small (column_on g t)
on_small g t =
    cond_keep Small (is t 0x03) (λ e. cond_keep Small (eqb (t.column.0 + 1) (page g)) (λ e. omega arith) (λ e. omega arith)) (λ e. omega arith)

-- an address of two bytes is below it
column_small_after : (g : Geometry) (b : ℕ) (t : Transfer) → b < 256 → Small t.column → Small (column_after g b t)
column_small_after g b t l h =
    cond_keep Small (eqb (column_bytes t) 0) (λ e. h)
    (λ e. cond_keep Small (eqb t.count 2) (λ e. omega arith)
    (λ e. cond_keep Small (leb (column_bytes t) t.count) (λ e. on_small g t) (λ e. h)))

-- a later byte leaves the instruction as it is
later_on_bus : (g : Geometry) (c b : ℕ) (t : Transfer) → b < 256 → 1 ≤ t.count → OnBus c t → OnBus c (later g b t)
later_on_bus g c b t l k h =
    record { count_small = omega arith; column_small = column_small_after g b t l h.column_small; lets_in = λ o s n. h.lets_in o s k }

pub shifted_on_bus : (g : Geometry) (c b : ℕ) (x : Bus) → b < 256 → OnBus c x.transfer → OnBus c (shifted_in g (oip c) b x).transfer
unfolding shifted_in
shifted_on_bus g c b x l h =
    cond_keep (λ (x : Bus). OnBus c x.transfer) (heard x)
    (λ e. cond_keep (OnBus c) (eqb t.count 0) (λ e. instructed_on_bus c b t h) (λ e. later_on_bus g c b t l ((some_T t.count).0 (rw e tt)) h))
    (λ e. h)
  where
    t : Transfer
    t = x.transfer

-- ---- the status register changed: OIP is 1 only where it was

pub status_on_bus : (c c' : ℕ) (t : Transfer) → (T (oip c') → T (oip c)) → OnBus c t → OnBus c' t
status_on_bus c c' t f h = record { count_small = h.count_small; column_small = h.column_small; lets_in = λ o s n. h.lets_in (f o) s n }
