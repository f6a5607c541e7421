-- What is promised of a run of a card log: refusals exactly, their effects, a log fed in parts.
use Rattle.std.specs.Prelude.{List, [], ◌++◌, ◌↔◌, ◌≡◌, ℕ, ◌-◌, ◌≤◌, length, take}
use Rattle.cardlog.specs.Read.{parse}
use Rattle.card.specs.Card.{Card, run}
use Rattle.slot.specs.Turns.{number_of}
use Rattle.slot.specs.Runs.{and_then, did, run_of}
use Rattle.slot.specs.declared.Refusal.TheVariants.{Done}
use Rattle.card_answers.specs.Table.{Stops, Full, Line}

-- number n is given if and only if line n holds
abbrev pub Exactly : Type 0
Exactly = (room : ℕ) (log : List ℕ) (c : Card) (n : ℕ) → number_of (run_of room log c).refusal ≡ n ↔ Line room log c n

-- "all with document 01's effects"
module _ (room : ℕ) (log : List ℕ) (c : Card) where
  -- 17 and 18, nothing done: all counts 0, the card returned as given, no lent byte changed
  abbrev pub NothingDone : Type 0
  NothingDone = 17 ≤ number_of (run_of room log c).refusal → run_of room log c ≡ did c (run_of room log c).refusal []

  -- 0, 6 and 7: the records before it stand, and no more has been done
  abbrev pub StopsBefore : Type 0
  StopsBefore = (n : ℕ) → number_of (run_of room log c).refusal ≡ n → (s : Stops log room n) → run_of room log c ≡ did c (run_of room log c).refusal s.earlier

  -- 9: the same
  abbrev pub FullBefore : Type 0
  FullBefore = number_of (run_of room log c).refusal ≡ 9 → (s : Full log room) → run_of room log c ≡ did c (run_of room log c).refusal s.earlier

  -- the card that comes back is the fold of the step over the records done, so that the card after each record is fixed
  abbrev pub FoldOfStep : Type 0
  FoldOfStep = (run_of room log c).card ≡ run c (take (run_of room log c).records (parse log).records)

abbrev pub Effects : Type 0
Effects = (room : ℕ) (log : List ℕ) (c : Card) → NothingDone room log c × StopsBefore room log c × FullBefore room log c × FoldOfStep room log c

-- a log read to its end and another behind it: running both is running the one and then the other from what came back
abbrev pub InParts : Type 0
InParts =
    (room : ℕ) (a b : List ℕ) (c : Card) → (run_of room a c).refusal ≡ Done →
    run_of room (a ++ b) c ≡ and_then (run_of room a c) (run_of (room - length (run_of room a c).output) b (run_of room a c).card)
