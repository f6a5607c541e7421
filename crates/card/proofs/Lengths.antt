-- No record changes how long the cells and the protect bits are.
use mathlib.Core.Bool.{◌&&◌}
use mathlib.Core.List.{List, [], ◌∷◌}
use mathlib.Core.Path.{◌≡◌, refl, ◌∙◌}
use Prim.Native.Nat.{ℕ}
use lib.Dec.{eqb}
use lib.ListN.{length, length-set}
use Rattle.part.proofs.Choice.{cond_keep}
use Rattle.cardlog.specs.declared.Record.{Record}
use Rattle.cardlog.specs.declared.Record.TheVariants.{Sent, Power}
use Rattle.card.specs.Table.{address_of}
use Rattle.card.specs.Card.{Card, is_open, cell_at, shut, spends, writable, cells_after, bits_after, commanded, sent, step, run}
use Rattle.card.specs.declared.Command.{Command}
use Rattle.card.specs.declared.Command.TheVariants.{WriteWithBit, Write, Protect, ReadWithBit, Read, Count, Compare, Ignored}

-- ---- a command

-- one list is as long as another
abbrev Long : List ℕ → List ℕ → Type 0
Long l x = length x ≡ length l

-- the cells, by the command
cells_long : (c : Card) (k : Command) (a d : ℕ) → Long c.cells (cells_after c k a d)
cells_long c WriteWithBit a d = cond_keep (Long c.cells) (writable c.stage c.bits a) (λ e. simp length-set) (λ e. refl)
cells_long c Write a d = cond_keep (Long c.cells) (writable c.stage c.bits a) (λ e. simp length-set) (λ e. refl)
cells_long c Count a d = cond_keep (Long c.cells) (spends c.cells c.bits a d) (λ e. simp length-set) (λ e. refl)
cells_long c Protect a d = refl
cells_long c ReadWithBit a d = refl
cells_long c Read a d = refl
cells_long c Compare a d = refl
cells_long c Ignored a d = refl

-- the protect bits, by the command
shut_long : (bits : List ℕ) (a : ℕ) → Long bits (shut bits a)
unfolding shut
shut_long bits a = simp length-set

bits_long : (c : Card) (k : Command) (a d : ℕ) → Long c.bits (bits_after c k a d)
bits_long c WriteWithBit a d = cond_keep (Long c.bits) (writable c.stage c.bits a) (λ e. shut_long c.bits a) (λ e. refl)
bits_long c Protect a d = cond_keep (Long c.bits) (is_open c.stage && eqb (cell_at c.cells a) d) (λ e. shut_long c.bits a) (λ e. refl)
bits_long c Write a d = refl
bits_long c ReadWithBit a d = refl
bits_long c Read a d = refl
bits_long c Count a d = refl
bits_long c Compare a d = refl
bits_long c Ignored a d = refl

-- ---- a record, and some records

-- one record leaves both as long as they were
pub step_cells : (c : Card) (e : Record) → length (step c e).cells ≡ length c.cells
unfolding step commanded
step_cells c (Sent first second third) = cells_long c (sent first second) (address_of first second) third
step_cells c Power = refl

pub step_bits : (c : Card) (e : Record) → length (step c e).bits ≡ length c.bits
unfolding step commanded
step_bits c (Sent first second third) = bits_long c (sent first second) (address_of first second) third
step_bits c Power = refl

-- and so do some records, one after another
pub run_cells : (es : List Record) (c : Card) → length (run c es).cells ≡ length c.cells
unfolding run
run_cells [] c = refl
run_cells (e ∷ es) c = run_cells es (step c e) ∙ step_cells c e

pub run_bits : (es : List Record) (c : Card) → length (run c es).bits ≡ length c.bits
unfolding run
run_bits [] c = refl
run_bits (e ∷ es) c = run_bits es (step c e) ∙ step_bits c e
