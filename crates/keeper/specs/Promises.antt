-- What is promised of one adding and of one grant. Of sequences of them: the crate `rounds`.
use Rattle.std.specs.Prelude.{[], ◌∷◌, ◌++◌, ◌↔◌, ◌≡◌, ℕ, ◌+◌, ◌%◌, ◌<◌, ◌≤◌, T, length, Ok, Err}
use Rattle.keeper.specs.declared.Keeper.{Keeper}
use Rattle.keeper.specs.declared.Grant.{Grant}
use Rattle.keeper.specs.declared.Refused.{Refused}
use Rattle.keeper.specs.Keeper.{queue_at, waiting, SoundKeeper, keeper_sound, number_in, new_keeper, add_of, grant_of}

-- the test of soundness says exactly what the request lists
abbrev pub SoundExactly : Type 0
SoundExactly = (k : Keeper) → T (keeper_sound k) ↔ SoundKeeper k

-- ---- refusals exactly, for every keeper, sound or not

-- when an adding gets number n
pub data AddLine (k : Keeper) (core : ℕ) : ℕ → Type 0 where
  keeper_not_sound : ¬ SoundKeeper k → AddLine k core 20
  core_above_3 : SoundKeeper k → 3 < core → AddLine k core 14
  eight_wait : SoundKeeper k → core ≤ 3 → length (waiting k core) ≡ 8 → AddLine k core 15
  has_room : SoundKeeper k → core ≤ 3 → length (waiting k core) < 8 → AddLine k core 0

-- it gets n if and only if line n holds
abbrev pub AddExactly : Type 0
AddExactly = (k : Keeper) (core tag n : ℕ) → number_in (add_of k core tag).answer ≡ n ↔ AddLine k core n

-- when a grant gets number n
pub data GrantLine (k : Keeper) : ℕ → Type 0 where
  keeper_not_sound : ¬ SoundKeeper k → GrantLine k 20
  all_empty : SoundKeeper k → ((core : ℕ) → core ≤ 3 → waiting k core ≡ []) → GrantLine k 16
  one_waits : SoundKeeper k → (core : ℕ) → core ≤ 3 → ¬ (waiting k core ≡ []) → GrantLine k 0

-- it gets n if and only if line n holds
abbrev pub GrantExactly : Type 0
GrantExactly = (k : Keeper) (n : ℕ) → number_in (grant_of k).answer ≡ n ↔ GrantLine k n

-- a refusal leaves the keeper as it was, every field
abbrev pub RefusedLeaves : Type 0
RefusedLeaves =
    (k : Keeper) (r : Refused) → ((core tag : ℕ) → (add_of k core tag).answer ≡ Err r → (add_of k core tag).keeper ≡ k) × ((grant_of k).answer ≡ Err r → (grant_of k).keeper ≡ k)

-- ---- what an adding and a grant do

-- a keeper's arrays have their lengths, as those of every keeper that can be handed in
pub record Formed (k : Keeper) : Type 0 where
  pub four : length k.queues ≡ 4
  pub eight : (core : ℕ) → core < 4 → length (queue_at k core).tags ≡ 8

-- what is kept from call to call
pub record Good (k : Keeper) : Type 0 where
  pub formed : Formed k
  pub sound : SoundKeeper k

-- every call keeps it, refused or not, and a new keeper has it
abbrev pub KeptSound : Type 0
KeptSound = Good new_keeper × ((k : Keeper) → Good k → ((core tag : ℕ) → Good (add_of k core tag).keeper) × Good (grant_of k).keeper)

-- a transfer is added to k, and j comes of it: it waits at the back of its core's queue, and nothing else has changed
pub record AtBack (k : Keeper) (core tag : ℕ) (j : Keeper) : Type 0 where
  pub back : waiting j core ≡ waiting k core ++ (tag ∷ [])
  pub others : (d : ℕ) → ¬ (d ≡ core) → queue_at j d ≡ queue_at k d
  pub last : j.last ≡ k.last

-- so it is after each adding that is not refused
abbrev pub AddsAtBack : Type 0
AddsAtBack = (k : Keeper) → Formed k → (core tag : ℕ) → (add_of k core tag).answer ≡ Ok tt → AtBack k core tag (add_of k core tag).keeper

-- a grant g of k, and j comes of it: it goes to the core that is `steps` after the last granted, each core between with nothing waiting;
-- that core's queue has lost its front, nothing else has changed, and the core is the last granted
pub record InTurn (k : Keeper) (g : Grant) (j : Keeper) : Type 0 where
  pub steps : ℕ
  pub on : 1 ≤ steps
  pub round : steps ≤ 4
  pub whose : g.core ≡ (k.last + steps) % 4
  pub passed : (s : ℕ) → 1 ≤ s → s < steps → waiting k ((k.last + s) % 4) ≡ []
  pub front : waiting k g.core ≡ g.tag ∷ waiting j g.core
  pub others : (d : ℕ) → ¬ (d ≡ g.core) → queue_at j d ≡ queue_at k d
  pub last : j.last ≡ g.core

-- so it is after each grant that is not refused
abbrev pub GrantsInTurn : Type 0
GrantsInTurn = (k : Keeper) → Formed k → (g : Grant) → (grant_of k).answer ≡ Ok g → InTurn k g (grant_of k).keeper

-- nothing waits in a new keeper, and the core after its last granted is core 0
abbrev pub NewKeeper : Type 0
NewKeeper = ((core : ℕ) → core < 4 → waiting new_keeper core ≡ []) × ((new_keeper.last + 1) % 4 ≡ 0)
