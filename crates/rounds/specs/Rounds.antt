-- Document 02, item 9: a keeper asked again and again, by anyone and in any order.
use Rattle.std.specs.Prelude.{Bool, true, false, ◌&&◌, List, [], ◌∷◌, ◌++◌, ℕ, eqb, if◌then◌else◌, ⊤, Result, Ok, Err, is_ok}
use Rattle.keeper.specs.declared.Keeper.{Keeper}
use Rattle.keeper.specs.declared.Grant.{Grant}
use Rattle.keeper.specs.declared.Refused.{Refused}
use Rattle.keeper.specs.Keeper.{add_of, grant_of}
use Rattle.keeper.specs.declared.Added.{Added}
use Rattle.keeper.specs.declared.Granted.{Granted}

-- one call: a transfer to be added, or a grant asked
pub data Call : Type 0 where
  adding : (core tag : ℕ) → Call
  granting : Call

-- the keeper after a call, refused or not
abbrev pub called : Keeper → Call → Keeper
called k (adding core tag) = (add_of k core tag).keeper
called k granting = (grant_of k).keeper

-- the keeper after all of some calls
unfoldable pub called_all : Keeper → List Call → Keeper
called_all k [] = k
called_all k (x ∷ xs) = called_all (called k x) xs

-- what a call answers beside the keeper: whether an adding was refused, or what is granted or why nothing is
pub data Answered : Type 0 where
  to_adding : Result ⊤ Refused → Answered
  to_granting : Result Grant Refused → Answered

-- to a call
abbrev pub answered : Keeper → Call → Answered
answered k (adding core tag) = to_adding (add_of k core tag).answer
answered k granting = to_granting (grant_of k).answer

-- what some calls answer, in their order
unfoldable pub answered_all : Keeper → List Call → List Answered
answered_all k [] = []
answered_all k (x ∷ xs) = answered k x ∷ answered_all (called k x) xs

-- the answers to the grants asked among some calls, in their order
unfoldable pub grants : Keeper → List Call → List Granted
grants k [] = []
grants k (adding core tag ∷ xs) = grants (add_of k core tag).keeper xs
grants k (granting ∷ xs) = grant_of k ∷ grants (grant_of k).keeper xs

-- an answer that is not refused
abbrev pub grant_given : Granted → Bool
grant_given g = is_ok g.answer

-- none of some answers is refused
unfoldable pub all_given : List Granted → Bool
all_given [] = true
all_given (g ∷ gs) = grant_given g && all_given gs

-- what an answer grants to a core
abbrev pub to_core : ℕ → Result Grant Refused → List ℕ
to_core core (Ok g) = if eqb g.core core then g.tag ∷ [] else []
to_core core (Err r) = []

-- what some answers grant to a core, in their order
unfoldable pub granted_to : ℕ → List Granted → List ℕ
granted_to core [] = []
granted_to core (g ∷ gs) = to_core core g.answer ++ granted_to core gs

-- what the adding of a tag for core d adds for a core
abbrev pub for_core : ℕ → ℕ → ℕ → Added → List ℕ
for_core core d tag a = if is_ok a.answer && eqb d core then tag ∷ [] else []

-- what some calls add for a core and is not refused, in its order
unfoldable pub added_for : ℕ → Keeper → List Call → List ℕ
added_for core k [] = []
added_for core k (adding d tag ∷ xs) = for_core core d tag (add_of k d tag) ++ added_for core (add_of k d tag).keeper xs
added_for core k (granting ∷ xs) = added_for core (grant_of k).keeper xs

-- no grant is asked
unfoldable pub only_adding : List Call → Bool
only_adding [] = true
only_adding (adding core tag ∷ xs) = only_adding xs
only_adding (granting ∷ xs) = false
