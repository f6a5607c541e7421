-- The refusals of a card log, said of the lengths and of the bytes of the log.
use Rattle.std.specs.Prelude.{List, ◌++◌, ◌≡◌, ℕ, ◌+◌, ◌≤◌, ◌<◌, length}
use Rattle.cardlog.specs.Log.{bytes_of, written}
use Rattle.cardlog.specs.Read.{Ends}
use Rattle.cardlog.specs.declared.Record.{Record}
use Rattle.card.specs.Card.{Card, takes}
use Rattle.slot.specs.Turns.{Fits}
use Rattle.slot.specs.Runs.{room_for}

-- the log is the bytes of some records, whose answers have room, and then what line n says (0: nothing; 6: a kind not in the table;
-- 7: a body cut short)
pub record Stops (log : List ℕ) (room n : ℕ) : Type 0 where
  pub earlier : List Record
  pub rest : List ℕ
  pub splits : log ≡ written earlier ++ rest
  pub next : Ends rest n
  pub roomy : room_for earlier ≤ room

-- the log is the bytes of some records, whose answers have room, and then a record whose answer, one byte or two, has none
pub record Full (log : List ℕ) (room : ℕ) : Type 0 where
  pub earlier : List Record
  pub next : Record
  pub rest : List ℕ
  pub splits : log ≡ written earlier ++ (bytes_of next ++ rest)
  pub roomy : room_for earlier ≤ room
  pub used_up : room < room_for earlier + takes next

-- number n is given exactly when its line holds
pub data Line (room : ℕ) (log : List ℕ) (c : Card) : ℕ → Type 0 where
  read_to_its_end : Fits c → Stops log room 0 → Line room log c 0
  cells_wrong : ¬ (length c.cells ≡ 1024) → Line room log c 17
  bits_wrong : length c.cells ≡ 1024 → ¬ (length c.bits ≡ 128) → Line room log c 18
  kind_not_in_table : Fits c → Stops log room 6 → Line room log c 6
  ends_inside_body : Fits c → Stops log room 7 → Line room log c 7
  no_room_left : Fits c → Full log room → Line room log c 9
