-- Document 02, item 9: a keeper of the bus with four queues of eight waiting transfers each, a transfer being a tag of one byte.
use Rattle.std.specs.Prelude.{Bool, true, not, ◌&&◌, List, [], ◌∷◌, ℕ, zero, suc, ◌+◌, ◌-◌, ◌%◌, ◌<◌, ◌≤◌, ltb, leb, eqb, get_or, set, if◌then◌else◌, ⊤, Option, Some, None, Result, Ok, Err}
use Rattle.keeper.specs.declared.Queue.{Queue}
use Rattle.keeper.specs.declared.Keeper.{Keeper}
use Rattle.keeper.specs.declared.Added.{Added}
use Rattle.keeper.specs.declared.Granted.{Granted}
use Rattle.keeper.specs.declared.Refused.{Refused}
use Rattle.keeper.specs.declared.Refused.TheVariants.{BadCore, QueueFull, AllEmpty, BadKeeper}
use Rattle.keeper.specs.declared.Grant.{Grant}

-- ---- the queues

-- a queue of these fields
abbrev pub queue : List ℕ → ℕ → ℕ → Queue
queue tags head len = record { tags = tags; head = head; length = len }

-- what stands for the queue of a core that is not there
abbrev pub no_queue : Queue
no_queue = queue [] 0 0

-- the queue of a core
abbrev pub queue_at : Keeper → ℕ → Queue
queue_at k core = get_or k.queues core no_queue

-- n tags from a place on, round from place 7 to 0
unfoldable pub tags_from : List ℕ → ℕ → ℕ → List ℕ
tags_from tags place zero = []
tags_from tags place (suc n) = get_or tags place 0 ∷ tags_from tags ((place + 1) % 8) n

-- the transfers that wait in a queue, the front first
abbrev pub waiting_in : Queue → List ℕ
waiting_in q = tags_from q.tags q.head q.length

-- the transfers of a core that wait
abbrev pub waiting : Keeper → ℕ → List ℕ
waiting k core = waiting_in (queue_at k core)

-- ---- a sound keeper: no queue length above eight, no queue place and no last core out of range

-- a queue: its place, and its length
pub record SoundQueue (q : Queue) : Type 0 where
  pub place : q.head < 8
  pub eight : q.length ≤ 8

-- the last core, and the queues of all four
pub record SoundKeeper (k : Keeper) : Type 0 where
  pub last : k.last < 4
  pub queues : (core : ℕ) → core < 4 → SoundQueue (queue_at k core)

-- a queue, as a test
abbrev pub queue_sound : Queue → Bool
queue_sound q = ltb q.head 8 && leb q.length 8

-- n queues, from that of a core on
unfoldable pub sound_from : Keeper → ℕ → ℕ → Bool
sound_from k core zero = true
sound_from k core (suc n) = queue_sound (queue_at k core) && sound_from k (core + 1) n

-- a keeper
unfoldable pub keeper_sound : Keeper → Bool
keeper_sound k = ltb k.last 4 && sound_from k 0 4

-- ---- the refusals

-- the number of each
abbrev pub number_of : Refused → ℕ
number_of BadCore = 14
number_of QueueFull = 15
number_of AllEmpty = 16
number_of BadKeeper = 20

-- the number of an answer: 0 where nothing is refused
abbrev pub number_in : {A : Type 0} → Result A Refused → ℕ
number_in (Ok x) = 0
number_in (Err r) = number_of r

-- ---- a new keeper

-- nothing waits
abbrev pub empty_queue : Queue
empty_queue = queue (0 ∷ 0 ∷ 0 ∷ 0 ∷ 0 ∷ 0 ∷ 0 ∷ 0 ∷ []) 0 0

-- at first a grant looks from core 0, the core after core 3
abbrev pub new_keeper : Keeper
new_keeper = record { queues = empty_queue ∷ empty_queue ∷ empty_queue ∷ empty_queue ∷ []; last = 3 }

-- ---- adding goes to the back of a core's queue

-- a keeper with another queue for a core, and another core granted last
abbrev pub with_queue : Keeper → ℕ → Queue → ℕ → Keeper
with_queue k core q last = record { queues = set k.queues core q; last = last }

-- a tag at the back: behind the last one that waits
abbrev pub put_of : Queue → ℕ → Queue
put_of q tag = queue (set q.tags ((q.head + q.length) % 8) tag) q.head (q.length + 1)

-- what comes of an adding: the keeper, and whether it was refused
abbrev pub added : Keeper → Result ⊤ Refused → Added
added k answer = record { keeper = k; answer = answer }

-- 20 first, then 14, then 15; each leaves the keeper as it was
unfoldable pub add_of : Keeper → ℕ → ℕ → Added
add_of k core tag =
    if not (keeper_sound k) then added k (Err BadKeeper)
    else if leb 4 core then added k (Err BadCore)
    else if eqb (queue_at k core).length 8 then added k (Err QueueFull)
    else added (with_queue k core (put_of (queue_at k core) tag) k.last) (Ok tt)

-- ---- a grant takes the front of the first non-empty queue from the core after the last granted, round from 3 to 0

-- the tag at the front
abbrev pub front_of : Queue → ℕ
front_of q = get_or q.tags q.head 0

-- a queue without its front
abbrev pub rest_of : Queue → Queue
rest_of q = queue q.tags ((q.head + 1) % 8) (q.length - 1)

-- the first of n cores whose queue is not empty, from a core on, round from 3 to 0
unfoldable pub first_from : Keeper → ℕ → ℕ → Option ℕ
first_from k core zero = None
first_from k core (suc n) = if ltb 0 (queue_at k core).length then Some core else first_from k ((core + 1) % 4) n

-- of all four, from the core after the last granted
abbrev pub whose_turn : Keeper → Option ℕ
whose_turn k = first_from k ((k.last + 1) % 4) 4

-- what comes of a grant: the keeper, and what is granted or why nothing is
abbrev pub granted : Keeper → Result Grant Refused → Granted
granted k answer = record { keeper = k; answer = answer }

-- a core and a tag
abbrev pub grant : ℕ → ℕ → Grant
grant core tag = record { core = core; tag = tag }

-- the front of a core's queue is taken, and the core is the last granted
abbrev pub taken_from : Keeper → ℕ → Granted
taken_from k core = granted (with_queue k core (rest_of (queue_at k core)) core) (Ok (grant core (front_of (queue_at k core))))

-- by whose turn it is
abbrev pub served : Keeper → Option ℕ → Granted
served k (Some core) = taken_from k core
served k None = granted k (Err AllEmpty)

-- 20 first, then 16; each leaves the keeper as it was
unfoldable pub grant_of : Keeper → Granted
grant_of k = if not (keeper_sound k) then granted k (Err BadKeeper) else served k (whose_turn k)
