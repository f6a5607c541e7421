-- Demand 3 says something, and none of its suppositions can be dropped: logs on the bench part. One table, and one statement over it.
use Rattle.std.specs.Prelude.{Bool, false, List, [], ◌∷◌, ◌++◌, ◌≡◌, ℕ, take, replicate}
use Rattle.part.specs.Part.{bench}
use Rattle.buslog.specs.Log.{written}
use Rattle.buslog.specs.declared.Record.{Record}
use Rattle.buslog.specs.declared.Record.TheVariants.{Units, Power}
use Rattle.array.specs.declared.Job.TheVariants.{Erase}
use Rattle.array.specs.declared.Work.TheVariants.{Busy}
use Rattle.device.specs.Machine.{work_in, status_in}
use Rattle.device.specs.Step.{power_up}
use Rattle.device.specs.declared.State.{State}
use Rattle.cases.specs.AfterReset.{reset}
use Rattle.cases.specs.Cases.{Case, ◌·◌⇒◌, send, blank, told, idle_with, number, same_list, wrong}
use Rattle.refusals.specs.Refusals.{number_of}
use Rattle.whole.specs.Orderly.{idle, orderly, power_up_at, starts}
use Rattle.whole.specs.Demand.{Given, given, machine_of, end_of, wholly, records_done}

-- ---- what is handed to `run`, and what it gives

-- a log on the bench part: cells that tell where they are, a cache register of some content, counts 0, room for 64 bytes of output
abbrev pub on : State → List Record → Given
on s es = given bench s (written es) told (replicate 20 0x77) (replicate 32 0) (replicate 64 0)

-- an end told in numbers
abbrev pub numbers : State → List ℕ → List ℕ → List ℕ → List ℕ
numbers s cells cache counts =
    let t = s.bus.transfer in
    s.regs.a0 ∷ s.regs.b0 ∷ s.regs.c0 ∷ s.regs.d0 ∷ number t.selected ∷ t.count ∷ number (idle s) ∷ cells ++ cache ++ counts

-- the two ends are one
abbrev pub one_end : Given → Bool
one_end i =
    let e = end_of i in
    let m = (wholly i).machine in
    same_list (numbers e.answer.state e.cells e.cache e.counts) (numbers m.state m.store.cells m.store.cache m.counts)

-- the number of refusal; whether it begins at power-up or idle, is orderly, ends idle; and whether the two ends are one
abbrev pub verdicts : Given → List ℕ
verdicts i =
    let e = end_of i in
    number_of e.answer.refusal ∷ number (starts i.state) ∷ number (orderly i.part (machine_of i) (records_done i e)) ∷ number (idle e.answer.state) ∷ number (one_end i) ∷ []

-- ---- the logs

-- a poll of the status register
abbrev pub poll : List Record
poll = send (0x0F ∷ 0xC0 ∷ 0 ∷ [])

-- an erase of row 5's block, some way, and the whole
abbrev pub erase : List Record
erase = send (0xD8 ∷ 0 ∷ 0 ∷ 5 ∷ []) ++ Units 30 ∷ []

-- an idle device, with WEL set
abbrev pub enabled : State
enabled = (idle_with 0 2 blank).state

-- begun at power-up, with polls and Read ID while busy: an erase, a program in the block, and the page read back
abbrev pub driver : List Record
driver =
    Units 3 ∷ poll ++ Units 30 ∷ send (0x1F ∷ 0xA0 ∷ 0 ∷ []) ++ send (0x06 ∷ []) ++ erase ++ poll ++ send (0x9F ∷ 0 ∷ 0 ∷ 0 ∷ []) ++ Units 60
    ∷ send (0x06 ∷ []) ++ send (0x02 ∷ 0 ∷ 2 ∷ 0x5A ∷ []) ++ send (0x10 ∷ 0 ∷ 0 ∷ 7 ∷ []) ++ Units 5 ∷ poll ++ Units 40
    ∷ send (0x13 ∷ 0 ∷ 0 ∷ 7 ∷ []) ++ Units 20 ∷ send (0x03 ∷ 0 ∷ 1 ∷ 0 ∷ 0 ∷ 0 ∷ [])

-- ---- the table

unfoldable pub rows : List Case
rows =
    1 · verdicts (on power_up driver) ⇒ (0 ∷ 1 ∷ 1 ∷ 1 ∷ 1 ∷ [])
    ∷ 2 · verdicts (on (power_up_at false) (Units 7 ∷ Units 13 ∷ [])) ⇒ (0 ∷ 1 ∷ 1 ∷ 1 ∷ 1 ∷ [])
    ∷ 3 · verdicts (on (work_in (Busy (Erase (record { 0 = 5 })) 30) (status_in 1 enabled)) (Units 50 ∷ [])) ⇒ (0 ∷ 0 ∷ 1 ∷ 1 ∷ 0 ∷ [])
    ∷ 4 · verdicts (on power_up (send (0x06 ∷ []) ++ Units 20 ∷ [])) ⇒ (0 ∷ 1 ∷ 0 ∷ 1 ∷ 0 ∷ [])
    ∷ 5 · verdicts (on enabled (erase ++ reset ++ Units 8 ∷ [])) ⇒ (0 ∷ 1 ∷ 0 ∷ 1 ∷ 0 ∷ [])
    ∷ 6 · verdicts (on enabled (erase ++ Power ∷ Units 20 ∷ [])) ⇒ (0 ∷ 1 ∷ 0 ∷ 1 ∷ 0 ∷ [])
    ∷ 7 · verdicts (on enabled erase) ⇒ (0 ∷ 1 ∷ 1 ∷ 0 ∷ 0 ∷ [])
    ∷ 8 · (let i = on power_up (Units 3 ∷ poll ++ Units 17 ∷ []) in verdicts i ++ take 3 (end_of i).out ++ (wholly i).output)
    ⇒ (0 ∷ 1 ∷ 1 ∷ 1 ∷ 1 ∷ 0xFF ∷ 0xFF ∷ 0x01 ∷ 0xFF ∷ 0xFF ∷ 0x00 ∷ [])
    ∷ 9 · verdicts (on enabled (reset ++ Units 3 ∷ poll ++ Units 9 ∷ send (0x04 ∷ []))) ⇒ (0 ∷ 1 ∷ 1 ∷ 1 ∷ 1 ∷ [])
    ∷ 10 · verdicts (on enabled (reset ++ Units 5 ∷ reset ++ Units 8 ∷ [])) ⇒ (0 ∷ 1 ∷ 0 ∷ 1 ∷ 1 ∷ [])
    ∷ []

-- each row is judged as it says. 1 and 2: a driver's log, and the power-up read alone with WP# low, meet every supposition. 3: begun in
-- mid-operation; 4: an instruction begun while busy; 5: a reset that cuts an erase; 6: a power loss that does; 7: ending busy: each lacks
-- one supposition alone, and its two ends differ. 8: the status answers themselves may differ. 9: a reset while idle, with its own units,
-- meets every supposition. 10: a reset within a reset does not, by the letter ("while the array is busy"), though its two ends are one.
abbrev pub NoneToSpare : Type 0
NoneToSpare = wrong rows ≡ []
