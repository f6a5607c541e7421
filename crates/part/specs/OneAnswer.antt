-- "From two results allowed for one input it is shown that they are equal": what that says of a function's contract, for every layer.
-- `post` is a contract's own `ensures`, read as a claim of the arguments, the result and what lent memory holds at exit.
use Rattle.std.specs.Prelude.{List, ◌≡◌, ℕ}
use borrow.Fn.Kinds.{ParamKind, ResultKind, Out, Dens, res_t, ended_of}
use contract.Lifetimes.{Lfts}
use denote.Triple.Clauses.{AtExit}

-- two results that a contract allows for one input are equal
abbrev pub OneAnswer : (n : ℕ) (ps : List (ParamKind n)) (r : ResultKind n) → Out n ps r → Type 0
OneAnswer n ps r post =
    (κs : Lfts n) (a : Dens κs ps) (x y : (res_t r κs).Denot) (s t : AtExit (ended_of n ps r) κs) →
    post κs a x s → post κs a y t → x ≡ y

-- and so is what lent memory holds at exit; `lent` reads it off
abbrev pub OneEnd : (n : ℕ) (ps : List (ParamKind n)) (r : ResultKind n) (A : Type 0) → ((κs : Lfts n) → AtExit (ended_of n ps r) κs → A) → Out n ps r → Type 0
OneEnd n ps r A lent post =
    (κs : Lfts n) (a : Dens κs ps) (x y : (res_t r κs).Denot) (s t : AtExit (ended_of n ps r) κs) →
    post κs a x s → post κs a y t → (x ≡ y) × (lent κs s ≡ lent κs t)
