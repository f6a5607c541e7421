-- The records of a log that was read: their levels are sound and their shifts carry bytes; and those that find room are the first ones.
use mathlib.Core.List.{List, [], ◌∷◌, ◌++◌}
use mathlib.Core.Path.{◌≡◌, refl, ap, subst}
use Prim.Native.Nat.{ℕ, suc, ◌-◌}
use lib.Dec.{T, ltb}
use lib.ListN.{length, take, drop}
use Rattle.part.proofs.Choice.{cond_keep, and_l, and_r, and_in}
use Rattle.buslog.specs.Log.{written, level_sound, levels_sound, Bytes}
use Rattle.buslog.specs.Read.{found, front, placed, next_of, parse}
use Rattle.buslog.specs.declared.Record.{Record}
use Rattle.buslog.specs.declared.Record.TheVariants.{Select, Shift, Deselect, Units, Level, Power}
use Rattle.buslog.proofs.Logs.{Reading, stops, reads, reading, parse_ends, parse_found, written_rest}
use Rattle.buslog.proofs.RoundTrip.{levels_low}
use Rattle.walk.specs.Turns.{takes}
use Rattle.model.specs.Runs.{fitting}
use Rattle.kept.specs.Kept.{BytesIn}

-- ---- levels

found_low : (l : List ℕ) (e : Record) (n : ℕ) → front l ≡ found e n → T (level_sound e)
unfolding next_of
found_low l e n p = levels_low l 0 e _ (ap (placed 0) p)

levels_by : {l : List ℕ} → Reading l → T (levels_sound (parse l).records)
unfolding levels_sound
levels_by {l} (stops w p) = rw (parse_ends l w p) tt
levels_by {l} (reads e n p r) = rw (parse_found l e n p) (and_in (level_sound e) _ (found_low l e n p) (levels_by r))

-- the levels of the records of a log are sound
pub levels_read : (l : List ℕ) → T (levels_sound (parse l).records)
levels_read l = levels_by (reading l)

-- and so are those of the first of some records
pub levels_front : (a b : List Record) → T (levels_sound (a ++ b)) → T (levels_sound a)
unfolding levels_sound
levels_front [] b t = tt
levels_front (e ∷ a) b t =
    and_in (level_sound e) (levels_sound a) (and_l (level_sound e) (levels_sound (a ++ b)) t) (levels_front a b (and_r (level_sound e) (levels_sound (a ++ b)) t))

-- ---- bytes

-- where the bytes of some records are bytes, so is each byte shifted in
bytes_written : (es : List Record) (l : List ℕ) → Bytes (written es ++ l) → BytesIn es
unfolding written
bytes_written [] l h = tt
bytes_written (Shift b ∷ es) l h = (h 1, bytes_written es l (λ i. h (suc (suc i))))
bytes_written (Select ∷ es) l h = (tt, bytes_written es l (λ i. h (suc i)))
bytes_written (Deselect ∷ es) l h = (tt, bytes_written es l (λ i. h (suc i)))
bytes_written (Units n ∷ es) l h = (tt, bytes_written es l (λ i. h (suc (suc (suc i)))))
bytes_written (Level v ∷ es) l h = (tt, bytes_written es l (λ i. h (suc (suc i))))
bytes_written (Power ∷ es) l h = (tt, bytes_written es l (λ i. h (suc i)))

pub bytes_read : (l : List ℕ) → Bytes l → BytesIn (parse l).records
bytes_read l h = bytes_written (parse l).records (drop (parse l).used l) (subst Bytes (written_rest l h) h)

-- ---- the records that find room

pub bytes_fitting : (room : ℕ) (es : List Record) → BytesIn es → BytesIn (fitting room es)
unfolding fitting
bytes_fitting room [] h = tt
bytes_fitting room (e ∷ es) h = cond_keep BytesIn (ltb room (takes e)) (λ p. tt) (λ p. (h.0, bytes_fitting (room - takes e) es h.1))

-- they are the first of the records, as many as they are
pub fitting_first : (room : ℕ) (es : List Record) → take (length (fitting room es)) es ≡ fitting room es
unfolding fitting
fitting_first room [] = refl
fitting_first room (e ∷ es) =
    cond_keep (λ (x : List Record). take (length x) (e ∷ es) ≡ x) (ltb room (takes e)) (λ p. refl)
    (λ p. ap {B = List Record} (λ x. e ∷ x) (fitting_first (room - takes e) es))
