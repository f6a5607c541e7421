-- A log judged: what a run of it returns and leaves, and whether the suppositions of demand 3 were met.
use Rattle.std.specs.Prelude.{Bool, true, ◌&&◌, List, ◌≡◌, ℕ, Result, Ok, Err}
use Rattle.model.specs.Runs.{End, seen}
use Rattle.buslog.specs.Log.{Bytes}
use Rattle.device.specs.declared.State.{State}
use Rattle.walk.specs.declared.Answer.{Answer}
use Rattle.whole.specs.Orderly.{idle, allowed}
use Rattle.whole.specs.Demand.{Given, end_of, supposed, SameEnd}
use Rattle.orderly.specs.declared.Judged.{Judged}
use Rattle.buslog.specs.declared.Record.{Record}
use Rattle.buslog.specs.declared.Why.{Why}

-- the end of a run, and the judgement on it
pub record Judgement : Type 0 where
  pub end : End
  pub orderly : Bool

-- what the caller sees: the answer, every byte of the lent memory, and the judgement
abbrev pub judged : Judged → List ℕ → List ℕ → List ℕ → List ℕ → Judgement
judged r cells cache counts out = record { end = seen r.answer cells cache counts out; orderly = r.orderly }

-- the judgement that demand 3 asks for: the end is that of `run`, and the test is that of the suppositions on it
abbrev pub judgement_of : Given → Judgement
judgement_of i = record { end = end_of i; orderly = supposed i (end_of i) }

-- an answer judged: it must be idle as well
abbrev pub closed : Answer → Bool → Judged
closed a ok = record { answer = a; orderly = ok && idle a.state }

-- what stands next in the log may come: a record that is allowed, or none
abbrev pub welcome : State → Result (Record × ℕ) Why → Bool
welcome s (Ok (e, place)) = allowed s e
welcome s (Err why) = true

-- what a porting team may rely on: `post` is the `ensures` of `judge`, of what was handed in, what came back and the verdict. Where it
-- says yes, the end is that of the whole run
abbrev pub AboutJudge : Type 0 → Given → End → Bool → Type 0
AboutJudge post i e ok = post → Bytes i.log → ok ≡ true → SameEnd i e
