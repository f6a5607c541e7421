-- Document 02, item 7: the second stepping and its complement bit. What CMP does to requests, and that without it the steppings do the
-- same, for every part and every machine; and cases, one table.
use Rattle.std.specs.Prelude.{Bool, not, ◌&&◌, List, [], ◌∷◌, ◌++◌, ◌≡◌, ℕ, ◌*◌, ◌≤◌, ◌<◌, T, replicate}
use Rattle.part.specs.Part.{rows, bench, fm25s005bi3, of_stepping}
use Rattle.part.specs.Protection.{bp, cmp, cmp_set, cmp_cleared}
use Rattle.part.specs.declared.Geometry.{Geometry}
use Rattle.part.specs.declared.Row.{Row}
use Rattle.part.specs.declared.Stepping.TheVariants.{First, Second}
use Rattle.buslog.specs.Read.{parse}
use Rattle.buslog.specs.declared.Record.{Record}
use Rattle.buslog.specs.declared.Record.TheVariants.{Power}
use Rattle.requests.specs.Requests.{begins?, used_of, program_fate, erase_fate}
use Rattle.device.specs.Machine.{Machine}
use Rattle.device.specs.Work.{unitwise}
use Rattle.device.specs.Step.{step, run}
use Rattle.model.specs.Runs.{fitting, run_of}
use Rattle.cases.specs.Cases.{Case, ◌·◌⇒◌, blank, counting_from, guards, idle_with, send, wrong}

-- ---- for every part and every machine

-- second stepping, b from 1 to 6, a row of the array: an erase begins with CMP 1 if and only if it fails with CMP 0; and so does a program
-- of a page that has been programmed fewer than 4 times
abbrev pub RequestsTurned : Type 0
RequestsTurned =
    (g : Geometry) (a0 : ℕ) (r : Row) → g.stepping ≡ Second → 1 ≤ bp a0 → bp a0 ≤ 6 → r.0 < rows g →
    (begins? (erase_fate g (cmp_set a0) r) ≡ not (begins? (erase_fate g (cmp_cleared a0) r)))
    × ((counts : List ℕ) → used_of r counts < 4 → begins? (program_fate g (cmp_set a0) r counts) ≡ not (begins? (program_fate g (cmp_cleared a0) r counts)))

-- CMP is 0, now and after each of the records, on the second stepping
unfoldable pub cmp_free : Geometry → Machine → List Record → Bool
cmp_free g m [] = not (cmp m.state.regs.a0)
cmp_free g m (e ∷ es) = not (cmp m.state.regs.a0) && cmp_free g (step (of_stepping Second g) (unitwise (of_stepping Second g)) m e) es

-- then the first stepping does the same
abbrev pub SteppingsAlike : Type 0
SteppingsAlike =
    (g : Geometry) (m : Machine) (es : List Record) → T (cmp_free g m es) →
    run (of_stepping Second g) (unitwise (of_stepping Second g)) m es ≡ run (of_stepping First g) (unitwise (of_stepping First g)) m es

-- and a log run, whatever it holds and whatever is lent, ends alike: refusal, counts, machine and output. (`fitting` are the records done.)
abbrev pub LogsAlike : Type 0
LogsAlike =
    (g : Geometry) (room : ℕ) (log : List ℕ) (m : Machine) → T (cmp_free g m (fitting room (parse log).records)) →
    run_of (of_stepping Second g) (unitwise (of_stepping Second g)) room log m ≡ run_of (of_stepping First g) (unitwise (of_stepping First g)) room log m

-- ---- cases

-- the bench part of the second stepping, and which of its blocks are protected
abbrev pub bench_second : Geometry
bench_second = of_stepping Second bench

abbrev pub eight_second : ℕ → List ℕ
eight_second a = guards bench_second a (counting_from 0 8)

-- some records on an idle part of the second stepping, A0h and C0h as given
abbrev pub after_second : ℕ → ℕ → List Record → Machine
after_second a c es = run bench_second (unitwise bench_second) (idle_with a c blank) es

abbrev pub register_a0 : Machine → List ℕ
register_a0 m = m.state.regs.a0 ∷ []

-- A0h written, write enable, a request for block k: the status then
abbrev pub request_leaves : ℕ → ℕ → ℕ → List ℕ
request_leaves code a k = (after_second 0 0 (send (0x1F ∷ 0xA0 ∷ a ∷ []) ++ send (0x06 ∷ []) ++ send (code ∷ 0 ∷ 0 ∷ 4 * k ∷ []))).state.regs.c0 ∷ []

-- 1 and 2: the blocks that BP and INV leave open, b 4 and b 6, INV 0 and 1. 3: b 1 to 3 pick none of 8 blocks, so all are protected, with
-- INV too. 4: b 0 and b 7 as ever. 5: on the first stepping bit 1 changes nothing. 6: of 512 blocks b 1 picks 8. 7: a number that no block
-- has. 8: FFh written to A0h on both steppings. 9: a reset leaves CMP, power loss does not. 10: an erase of block 0 and of block 7 fails or
-- begins by CMP and INV. 11: so does a program
unfoldable pub stepping_cases : List Case
stepping_cases =
    1 · (eight_second 0x22 ++ eight_second 0x26) ⇒ ((replicate 7 1 ++ 0 ∷ []) ++ 0 ∷ replicate 7 1)
    ∷ 2 · (eight_second 0x32 ++ eight_second 0x36) ⇒ ((replicate 4 1 ++ replicate 4 0) ++ replicate 4 0 ++ replicate 4 1)
    ∷ 3 · (eight_second 0x0A ++ eight_second 0x12 ++ eight_second 0x1E) ⇒ replicate 24 1
    ∷ 4 · (eight_second 0x02 ++ eight_second 0x06 ++ eight_second 0x3A ++ eight_second 0x3E) ⇒ (replicate 16 0 ++ replicate 16 1)
    ∷ 5 · guards bench 0x22 (counting_from 0 8) ⇒ (replicate 7 0 ++ 1 ∷ [])
    ∷ 6 · guards (of_stepping Second fm25s005bi3) 0x0A (0 ∷ 503 ∷ 504 ∷ 511 ∷ []) ⇒ (1 ∷ 1 ∷ 0 ∷ 0 ∷ [])
    ∷ 7 · guards bench_second 0x26 (7 ∷ 8 ∷ 9 ∷ []) ⇒ (1 ∷ 0 ∷ 0 ∷ [])
    ∷ 8 · (register_a0 (after_second 0 0 (send (0x1F ∷ 0xA0 ∷ 0xFF ∷ []))) ++ register_a0 (run bench (unitwise bench) (idle_with 0 0 blank) (send (0x1F ∷ 0xA0 ∷ 0xFF ∷ []))))
    ⇒ (0xBE ∷ 0xBC ∷ [])
    ∷ 9 · (register_a0 (after_second 0x26 0 (send (0xFF ∷ []))) ++ register_a0 (after_second 0x26 0 (Power ∷ []))) ⇒ (0x26 ∷ 0x38 ∷ [])
    ∷ 10 · (request_leaves 0xD8 0x22 0 ++ request_leaves 0xD8 0x22 7 ++ request_leaves 0xD8 0x26 0 ++ request_leaves 0xD8 0x26 7) ⇒ (0x04 ∷ 0x01 ∷ 0x01 ∷ 0x04 ∷ [])
    ∷ 11 · (request_leaves 0x10 0x22 0 ++ request_leaves 0x10 0x22 7 ++ request_leaves 0x10 0x26 0 ++ request_leaves 0x10 0x26 7) ⇒ (0x08 ∷ 0x01 ∷ 0x01 ∷ 0x08 ∷ [])
    ∷ []

-- each is seen as it says
abbrev pub AllSteppingCases : Type 0
AllSteppingCases = wrong stepping_cases ≡ []
