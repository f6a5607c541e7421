-- Records and the output room they take; a run of one part and then another; the run that is left, from a place of the log on.
use mathlib.Core.Bool.{Bool, true, false}
use mathlib.Core.List.{List, [], ◌∷◌, ◌++◌, append_assoc}
use mathlib.Core.Path.{◌≡◌, refl, sym, ap, ◌∙◌}
use Prim.Native.Nat.{ℕ, suc, ◌+◌, ◌-◌, ◌≤◌, ◌<◌}
use native.Mathlib.Nat.{zero-add, add_assoc}
use native.Mathlib.Omega.{arith}
use lib.Dec.{ltb}
use lib.ListN.{length, drop, length-append}
use lib.Seq.{drop-drop}
use borrow.Author.Tests.{lt-ltb, le-ltb, ltb-true, ltb-false}
use Rattle.part.specs.declared.Geometry.{Geometry}
use Rattle.buslog.specs.Log.{written}
use Rattle.buslog.specs.Read.{ends, found, front, parse}
use Rattle.buslog.specs.declared.Why.{Why}
use Rattle.buslog.specs.declared.Record.{Record}
use Rattle.buslog.specs.declared.Record.TheVariants.{Select, Shift, Deselect, Units, Level, Power}
use Rattle.buslog.proofs.Logs.{written_append, parse_ends, parse_found}
use Rattle.device.specs.Machine.{Machine}
use Rattle.device.specs.Work.{Array}
use Rattle.device.specs.Step.{step, run}
use Rattle.refusals.specs.Refusals.{refusal_of}
use Rattle.walk.specs.Turns.{takes, puts}
use Rattle.model.specs.Runs.{and_then, shifts_in, fitting, bytes_out, did, ran_of}
use Rattle.refusals.specs.declared.Refusal.{Refusal}
use Rattle.refusals.specs.declared.Refusal.TheVariants.{Done, NoRoom}

pub shifts_append : (a b : List Record) → shifts_in (a ++ b) ≡ shifts_in a + shifts_in b
unfolding shifts_in
shifts_append [] b = sym (zero-add (shifts_in b))
shifts_append (e ∷ a) b = rw (shifts_append a b) (sym (add_assoc (takes e) (shifts_in a) (shifts_in b)))

pub fitting_all : (room : ℕ) (es : List Record) → shifts_in es ≤ room → fitting room es ≡ es
unfolding shifts_in fitting
fitting_all room [] h = refl
fitting_all room (e ∷ es) h = rw (le-ltb room (takes e) (omega arith), fitting_all (room - takes e) es (omega arith))

pub fitting_full : (room : ℕ) (a : List Record) (b : ℕ) (c : List Record) → shifts_in a ≡ room → fitting room (a ++ Shift b ∷ c) ≡ a
unfolding shifts_in fitting
fitting_full room [] b c h = rw (lt-ltb room 1 (omega arith))
fitting_full room (e ∷ a) b c h = rw (le-ltb room (takes e) (omega arith), fitting_full (room - takes e) a b c (omega arith))

pub fitting_parts : (room : ℕ) (a b : List Record) → shifts_in a ≤ room → fitting room (a ++ b) ≡ a ++ fitting (room - shifts_in a) b
unfolding shifts_in fitting
fitting_parts room [] b h = ap (λ (k : ℕ). fitting k b) (omega arith)
fitting_parts room (e ∷ a) b h =
    rw (le-ltb room (takes e) (omega arith))
    (ap {B = List Record} (λ x. e ∷ x) (fitting_parts (room - takes e) a b (omega arith) ∙ ap (λ (k : ℕ). a ++ fitting k b) (omega arith)))

module _ (g : Geometry) (arr : Array) where
  pub run_parts : (a b : List Record) (m : Machine) → run g arr m (a ++ b) ≡ run g arr (run g arr m a) b
  unfolding run
  run_parts [] b m = refl
  run_parts (e ∷ a) b m = run_parts a b (step g arr m e)

  pub out_parts : (a b : List Record) (m : Machine) → bytes_out g arr m (a ++ b) ≡ bytes_out g arr m a ++ bytes_out g arr (run g arr m a) b
  unfolding run bytes_out
  out_parts [] b m = refl
  out_parts (e ∷ a) b m = rw (out_parts a b (step g arr m e)) (sym (append_assoc (puts g m e) (bytes_out g arr (step g arr m e) a) _))

  pub puts_length : (m : Machine) (e : Record) → length (puts g m e) ≡ takes e
  puts_length m (Shift b) = refl
  puts_length m Select = refl
  puts_length m Deselect = refl
  puts_length m (Units n) = refl
  puts_length m (Level v) = refl
  puts_length m Power = refl

  -- a byte of output for each shift
  pub out_length : (es : List Record) (m : Machine) → length (bytes_out g arr m es) ≡ shifts_in es
  unfolding bytes_out shifts_in
  out_length [] m = refl
  out_length (e ∷ es) m = rw (length-append (puts g m e) (bytes_out g arr (step g arr m e) es), puts_length m e, out_length es (step g arr m e))

pub ltb_less : (r a b : ℕ) → a ≤ r → ltb r (a + b) ≡ ltb (r - a) b
ltb_less r a b h = go (ltb (r - a) b) refl
  where
    go : (x : Bool) → ltb (r - a) b ≡ x → ltb r (a + b) ≡ x
    go true e = lt-ltb r (a + b) (omega (arith, ltb-true (r - a) b e))
    go false e = le-ltb r (a + b) (omega (arith, ltb-false (r - a) b e))

module _ (g : Geometry) (arr : Array) (m : Machine) where
  pub did_parts : (r s : Refusal) (a b : List Record) → did g arr m s (a ++ b) ≡ and_then (did g arr m r a) (did g arr (run g arr m a) s b)
  did_parts r s a b = rw (run_parts g arr a b m, out_parts g arr a b m, written_append a b, length-append a b, length-append (written a) (written b))

-- ---- what a loop over a slice and an index needs: the run that is left, from a place of the log on

module _ (g : Geometry) (arr : Array) (room : ℕ) (log : List ℕ) (at : ℕ) (m : Machine) where
  pub left_ends : (w : Why) → front (drop at log) ≡ ends w → ran_of g arr room (parse (drop at log)) m ≡ did g arr m (refusal_of w) []
  unfolding ran_of shifts_in fitting
  left_ends w p = rw (parse_ends (drop at log) w p, le-ltb room 0 (omega arith))

  pub left_full : (e : Record) (n : ℕ) → front (drop at log) ≡ found e n → room < takes e → ran_of g arr room (parse (drop at log)) m ≡ did g arr m NoRoom []
  unfolding ran_of shifts_in fitting
  left_full e n p h = rw (parse_found (drop at log) e n p, lt-ltb room (takes e + shifts_in (parse (drop (suc n) (drop at log))).records) (omega arith), lt-ltb room (takes e) h)

  pub left_next : (e : Record) (n : ℕ) → front (drop at log) ≡ found e n → takes e ≤ room
      → ran_of g arr room (parse (drop at log)) m ≡ and_then (did g arr m Done (e ∷ [])) (ran_of g arr (room - takes e) (parse (drop (at + suc n) log)) (step g arr m e))
  unfolding ran_of shifts_in fitting run
  left_next e n p h =
      rw (parse_found (drop at log) e n p, drop-drop (suc n) at log, ltb_less room (takes e) _ h, le-ltb room (takes e) h)
      (did_parts g arr m Done _ (e ∷ []) (fitting (room - takes e) (parse (drop (at + suc n) log)).records))
