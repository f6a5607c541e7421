-- `read_full`: what a read gave stands behind what was consumed before.
use Rattle.std.proofs.Common.{◌≡◌, ℕ, ◌+◌, ◌-◌, ◌≤◌, List, ◌++◌, rules, length, take, sym, ap, ◌∙◌, subst, length-take-le}
use Rattle.std.proofs.Math.Seq.{take-append-add}
use Rattle.std.proofs.lemmas.List.{take-append-le}
use Rattle.std.proofs.KnownBytes.{Consumes-trans}
use Rattle.std.specs.Io.KnownBytes.{Consumes}
use borrow.Rule.Slice.PartMut.{post_of}
use Rattle.console.proofs.read_full.Goals as goal

-- the front grows by the first n of what stands behind it
behind : (f n : ℕ) (front part rest : List ℕ) → length front ≡ f → n ≤ length part → front ++ take n part ≡ take (f + n) (front ++ (part ++ rest))
behind f n front part rest long fits =
    ap (λ l. front ++ l) (sym (take-append-le n part rest fits)) ∙ sym (take-append-add front (part ++ rest) n) ∙ ap (λ k. take (k + n) (front ++ (part ++ rest))) long

pub loop-preserved : goal.loop-preserved
loop-preserved g c =
    let l = c.loop in
    let front = take l.count l.room in
    let grown = behind l.count c.in-Ok.n front c.read.new.buf (post_of l.count (length l.room - l.count) l.room) (length-take-le l.count l.room l.invariant.1) c.in-Ok.ensures.bound.0 in
    (search rules, search rules, search rules, subst (Consumes _ _) grown (Consumes-trans _ _ _ _ _ l.invariant.3 c.in-Ok.ensures.bytes.0))
