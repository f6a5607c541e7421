-- What is promised of a keeper over any calls, by anyone and in any order, refused ones among them.
use Rattle.std.specs.Prelude.{List, [], ◌∷◌, ◌++◌, ◌≡◌, ℕ, ◌+◌, ◌*◌, ◌<◌, ◌≤◌, T, length, Ok}
use Rattle.keeper.specs.declared.Keeper.{Keeper}
use Rattle.keeper.specs.declared.Grant.{Grant}
use Rattle.keeper.specs.Keeper.{waiting, new_keeper, grant_of}
use Rattle.keeper.specs.declared.Granted.{Granted}
use Rattle.keeper.specs.Promises.{Good}
use Rattle.rounds.specs.Rounds.{Call, adding, granting, called_all, answered_all, grants, all_given, granted_to, added_for, only_adding}

-- a good keeper stays good
abbrev pub StaysGood : Type 0
StaysGood = (k : Keeper) → Good k → (xs : List Call) → Good (called_all k xs)

-- ---- order, and once: what has been granted to a core, followed by what still waits in its queue, is what waited at the start, followed
-- by what was added and not refused

abbrev pub InOrder : Type 0
InOrder =
    (k : Keeper) → Good k → (xs : List Call) (core : ℕ) →
    granted_to core (grants k xs) ++ waiting (called_all k xs) core ≡ waiting k core ++ added_for core k xs

-- ---- fairness

-- among the first n of some answers to grants there is one for a core, and none before it is refused
pub record Within (n core : ℕ) (gs : List Granted) : Type 0 where
  pub earlier : List Granted
  pub this : Granted
  pub later : List Granted
  pub grant : Grant
  pub splits : gs ≡ earlier ++ (this ∷ later)
  pub soon : length earlier < n
  pub none_refused : T (all_given earlier)
  pub given : this.answer ≡ Ok grant
  pub whose : grant.core ≡ core

-- a core that has a transfer waiting is granted within the next four grants asked, none of which is refused before it
abbrev pub WithinFour : Type 0
WithinFour = (k : Keeper) → Good k → (xs : List Call) (core : ℕ) → core < 4 → ¬ (waiting k core ≡ []) → 4 ≤ length (grants k xs) → Within 4 core (grants k xs)

-- among the first n of some answers there is the grant of a tag to a core, and by then the core has been granted just what stood before it
pub record Comes (n core : ℕ) (before : List ℕ) (tag : ℕ) (gs : List Granted) : Type 0 where
  pub within : Within n core gs
  pub which : within.grant.tag ≡ tag
  pub behind : granted_to core within.earlier ≡ before

-- a transfer with i before it in its core's queue is granted within the next 4(i + 1) grants asked
abbrev pub InTime : Type 0
InTime =
    (k : Keeper) → Good k → (xs : List Call) (core : ℕ) → core < 4 → (before : List ℕ) (tag : ℕ) (after : List ℕ) → waiting k core ≡ before ++ (tag ∷ after) →
    4 * (length before + 1) ≤ length (grants k xs) → Comes (4 * (length before + 1)) core before tag (grants k xs)

-- four is no more than is needed: where each core of a new keeper has one transfer, three grants are given and core 3 still waits
abbrev pub FourNeeded : Type 0
FourNeeded =
    let xs = adding 0 10 ∷ adding 1 11 ∷ adding 2 12 ∷ adding 3 13 ∷ granting ∷ granting ∷ granting ∷ [] in
    T (all_given (grants new_keeper xs)) × (length (grants new_keeper xs) ≡ 3) × (waiting (called_all new_keeper xs) 3 ≡ 13 ∷ [])

-- ---- at first, from core 0: nothing waits for a core below the one that is granted first

abbrev pub FirstFromZero : Type 0
FirstFromZero =
    (xs : List Call) → T (only_adding xs) → (g : Grant) → (grant_of (called_all new_keeper xs)).answer ≡ Ok g → (d : ℕ) → d < g.core →
    waiting (called_all new_keeper xs) d ≡ []

-- ---- nothing else matters: what stands in a queue's other places, and the place where it begins, are never seen

-- the same waits for each core, and the same core was granted last
pub record Alike (k j : Keeper) : Type 0 where
  pub waits : (core : ℕ) → core < 4 → waiting k core ≡ waiting j core
  pub last : k.last ≡ j.last

-- then all calls answer the same, and the two stay alike
abbrev pub Unseen : Type 0
Unseen =
    (k j : Keeper) → Good k → Good j → Alike k j → (xs : List Call) →
    (answered_all k xs ≡ answered_all j xs) × Alike (called_all k xs) (called_all j xs)
