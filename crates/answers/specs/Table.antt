-- Document 01, "Numbers of refusal": the table, said of the part, the lengths, the state and the bytes of the log.
use Rattle.std.specs.Prelude.{List, ◌∷◌, ◌++◌, ◌≡◌, ℕ, ◌*◌, ◌≤◌, T, length}
use Rattle.part.specs.Part.{page, rows, Sound}
use Rattle.part.specs.declared.Geometry.{Geometry}
use Rattle.buslog.specs.Log.{written, levels_sound}
use Rattle.buslog.specs.Read.{Ends}
use Rattle.buslog.specs.declared.Record.{Record}
use Rattle.device.specs.Machine.{Machine}
use Rattle.device.specs.Sound.{SoundState}
use Rattle.model.specs.Runs.{shifts_in}

-- ---- the checks, each with those before it

pub record CellsFit (g : Geometry) (m : Machine) : Type 0 where
  pub part : Sound g
  pub cells : length m.store.cells ≡ rows g * page g

pub record CacheFits (g : Geometry) (m : Machine) : Type 0 where
  pub before : CellsFit g m
  pub cache : length m.store.cache ≡ page g

pub record CountsFit (g : Geometry) (m : Machine) : Type 0 where
  pub before : CacheFits g m
  pub counts : length m.counts ≡ rows g

-- the checks 1 to 5 hold
pub record Fine (g : Geometry) (m : Machine) : Type 0 where
  pub before : CountsFit g m
  pub state : SoundState g m.state

-- ---- the log

-- the log is the bytes of some records, whose shifts have room, and then what line n says (0: nothing; 6: a kind not in the table; 7: a body cut
-- short; 8: a WP# level above 1)
pub record Stops (log : List ℕ) (room n : ℕ) : Type 0 where
  pub earlier : List Record
  pub levels : T (levels_sound earlier)
  pub rest : List ℕ
  pub splits : log ≡ written earlier ++ rest
  pub next : Ends rest n
  pub roomy : shifts_in earlier ≤ room

-- the log is the bytes of some records, whose shifts use up the room, and then a shift
pub record Full (log : List ℕ) (room : ℕ) : Type 0 where
  pub earlier : List Record
  pub levels : T (levels_sound earlier)
  pub byte : ℕ
  pub rest : List ℕ
  pub splits : log ≡ written earlier ++ (0x02 ∷ byte ∷ rest)
  pub used_up : shifts_in earlier ≡ room

-- ---- the table: number n is given exactly when its line holds

pub data Line (g : Geometry) (room : ℕ) (log : List ℕ) (m : Machine) : ℕ → Type 0 where
  read_to_its_end : Fine g m → Stops log room 0 → Line g room log m 0
  geometry_not_sound : ¬ Sound g → Line g room log m 1
  cells_wrong : Sound g → ¬ (length m.store.cells ≡ rows g * page g) → Line g room log m 2
  cache_wrong : CellsFit g m → ¬ (length m.store.cache ≡ page g) → Line g room log m 3
  counts_wrong : CacheFits g m → ¬ (length m.counts ≡ rows g) → Line g room log m 4
  state_not_sound : CountsFit g m → ¬ SoundState g m.state → Line g room log m 5
  kind_not_in_table : Fine g m → Stops log room 6 → Line g room log m 6
  ends_inside_body : Fine g m → Stops log room 7 → Line g room log m 7
  level_above_1 : Fine g m → Stops log room 8 → Line g room log m 8
  no_room_left : Fine g m → Full log room → Line g room log m 9
