-- The keeper's answers in numbers: the keeper as it is, and the refusal by its number, 0 where there is none.
use Rattle.std.specs.Prelude.{Result, Ok, Err}
use Rattle.keeper.specs.declared.Keeper.{Keeper}
use Rattle.keeper.specs.declared.Grant.{Grant}
use Rattle.keeper.specs.declared.Refused.{Refused}
use Rattle.keeper.specs.Keeper.{number_of, number_in}
use Rattle.keeper.specs.declared.Added.{Added}
use Rattle.keeper.specs.declared.Granted.{Granted}
use Rattle.keeper_face.specs.declared.CAdded.{CAdded}
use Rattle.keeper_face.specs.declared.CGranted.{CGranted}

-- an adding
abbrev pub face_added : Added → CAdded
face_added a = record { keeper = a.keeper; refusal = number_in a.answer }

-- a keeper and what a grant answers; core and tag are 0 where it is refused
abbrev pub in_numbers : Keeper → Result Grant Refused → CGranted
in_numbers k (Ok g) = record { keeper = k; refusal = 0; core = g.core; tag = g.tag }
in_numbers k (Err r) = record { keeper = k; refusal = number_of r; core = 0; tag = 0 }

-- a grant
abbrev pub face_granted : Granted → CGranted
face_granted g = in_numbers g.keeper g.answer
