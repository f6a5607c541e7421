-- What is promised of the card in numbers.
use Rattle.std.specs.Prelude.{◌≡◌, ℕ, ◌≤◌}
use Rattle.card.specs.declared.Stage.{Stage}
use Rattle.card_face.specs.Face.{stage_number, stage_of}

-- each stage there and back, and each of the four numbers
abbrev pub ThereAndBack : Type 0
ThereAndBack = ((s : Stage) → stage_of (stage_number s) ≡ s) × ((n : ℕ) → n ≤ 3 → stage_number (stage_of n) ≡ n)
