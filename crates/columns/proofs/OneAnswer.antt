-- T7 for this crate: each public function's contract allows one answer, and one content of the lent memory.
use mathlib.Core.List.{List}
use mathlib.Core.Path.{◌∙◌, sym, refl}
use Prim.Native.Nat.{ℕ}
use Rattle.part.specs.OneAnswer.{OneAnswer, OneEnd}
use Rattle.columns.proofs.next_column.Reads as next-column-reads
use Rattle.columns.proofs.next_column.Kinds as next-column-kinds
use Rattle.columns.proofs.next_read.Reads as next-read-reads
use Rattle.columns.proofs.next_read.Kinds as next-read-kinds
use Rattle.columns.proofs.byte_at.Reads as byte-at-reads
use Rattle.columns.proofs.byte_at.Kinds as byte-at-kinds
use Rattle.columns.proofs.store_at.Reads as store-at-reads
use Rattle.columns.proofs.store_at.Kinds as store-at-kinds
use Rattle.columns.proofs.column_of.Reads as column-of-reads
use Rattle.columns.proofs.column_of.Kinds as column-of-kinds

pub next_column_one : OneAnswer 0 next-column-kinds.ps next-column-kinds.r next-column-reads.Post
next_column_one κs a x y s t p q = p ∙ sym q

pub next_read_one : OneAnswer 0 next-read-kinds.ps next-read-kinds.r next-read-reads.Post
next_read_one κs a x y s t p q = p ∙ sym q

pub byte_at_one : OneAnswer 1 byte-at-kinds.ps byte-at-kinds.r byte-at-reads.Post
byte_at_one κs a x y s t p q = p ∙ sym q

pub store_at_one : OneEnd 1 store-at-kinds.ps store-at-kinds.r (List ℕ) (λ κs s. s.0.now) store-at-reads.Post
store_at_one κs a x y s t p q = (refl, p ∙ sym q)

pub column_of_one : OneAnswer 0 column-of-kinds.ps column-of-kinds.r column-of-reads.Post
column_of_one κs a x y s t p q = p ∙ sym q
