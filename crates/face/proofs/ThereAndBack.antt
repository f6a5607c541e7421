-- A state and its numbers go there and back; and what stands in for no state is never sound.
use Rattle.std.specs.Prelude.{Option, Some, None}
use mathlib.Core.Bool.{Bool, true, false, cond, ◌&&◌}
use mathlib.Core.Path.{◌≡◌, refl, sym}
use Prim.Native.Nat.{ℕ, ◌≤◌}
use native.Mathlib.Omega.{arith}
use lib.Dec.{eqb, leb}
use borrow.Author.Tests.{eqb-true, eqb-false, leb-true}
use Rattle.array.specs.declared.Job.TheVariants.{Read, Program, Erase, Restart}
use Rattle.array.specs.declared.Work.{Work}
use Rattle.array.specs.declared.Work.TheVariants.{Idle, Busy}
use Rattle.codes.specs.Codes.{byte_of}
use Rattle.codes.specs.declared.Instruction.{Instruction}
use Rattle.codes.specs.declared.Instruction.TheVariants.{Ignored, WriteEnable, WriteDisable, GetFeature, SetFeature, ReadId, PageRead, ReadCache, Load, LoadRandom, Execute, BlockErase, Reset}
use Rattle.device.specs.Machine.{work_in}
use Rattle.device.specs.Sound.{sound_state}
use Rattle.device.specs.declared.State.{State}
use Rattle.face.specs.Face.{instruction_at, row, work_at, state_as, told_code, state_of, flag, faced, faced_work, face_of}
use Rattle.face.specs.Promises.{StateBack, FaceBack, NeverSound}

-- ---- the numbers of a state stand for that state

code_known : (i : Instruction) → instruction_at (byte_of i) ≡ Some i
code_known Ignored = refl
code_known WriteEnable = refl
code_known WriteDisable = refl
code_known GetFeature = refl
code_known SetFeature = refl
code_known ReadId = refl
code_known PageRead = refl
code_known ReadCache = refl
code_known Load = refl
code_known LoadRandom = refl
code_known Execute = refl
code_known BlockErase = refl
code_known Reset = refl

flag_read : (b : Bool) → eqb (flag b) 1 ≡ b
flag_read true = refl
flag_read false = refl

flag_low : (b : Bool) → leb (flag b) 1 ≡ true
flag_low true = refl
flag_low false = refl

module _ (s : State) where
  abbrev wp : Bool
  wp = s.bus.pins.wp

  abbrev on : Bool
  on = s.bus.transfer.selected

  back_with : (w : Work) → state_of (faced_work s w) ≡ Some (work_in w s)
  unfolding state_of
  back_with Idle = rw (code_known s.bus.transfer.instruction, flag_low wp, flag_low on, flag_read wp, flag_read on)
  back_with (Busy (Read r) u) = rw (code_known s.bus.transfer.instruction, flag_low wp, flag_low on, flag_read wp, flag_read on)
  back_with (Busy (Program r) u) = rw (code_known s.bus.transfer.instruction, flag_low wp, flag_low on, flag_read wp, flag_read on)
  back_with (Busy (Erase r) u) = rw (code_known s.bus.transfer.instruction, flag_low wp, flag_low on, flag_read wp, flag_read on)
  back_with (Busy Restart u) = rw (code_known s.bus.transfer.instruction, flag_low wp, flag_low on, flag_read wp, flag_read on)

pub state_back : StateBack
unfolding face_of
state_back s = back_with s s.work

-- ---- numbers that stand for a state are that state's numbers

never : {A B : Type 0} {x y : A} → (x ≡ y → ◌≡◌ {A = ℕ} 0 1) → x ≡ y → B
never f h = let z : ◌≡◌ {A = ℕ} 0 1 = f h in let n : ⊥ = omega arith in absurd n

-- a choice that ends in a known instruction took the first way or the second
code_step : (k n : ℕ) (j : Instruction) (rest : Option Instruction) (i : Instruction) → byte_of j ≡ n → (rest ≡ Some i → byte_of i ≡ k) → cond (eqb k n) (Some j) rest ≡ Some i → byte_of i ≡ k
code_step k n j rest i hj hrest = go (eqb k n) refl
  where
    go : (t : Bool) → eqb k n ≡ t → cond t (Some j) rest ≡ Some i → byte_of i ≡ k
    go true e h = let q : i ≡ j = cc in rw (q, hj) (sym (eqb-true k n e))
    go false e h = hrest h

code_back : (k : ℕ) (i : Instruction) → instruction_at k ≡ Some i → byte_of i ≡ k
code_back k i =
    code_step k 256 Ignored _ i refl (code_step k 0x06 WriteEnable _ i refl (code_step k 0x04 WriteDisable _ i refl (code_step k 0x0F GetFeature _ i refl
    (code_step k 0x1F SetFeature _ i refl (code_step k 0x9F ReadId _ i refl (code_step k 0x13 PageRead _ i refl (code_step k 0x03 ReadCache _ i refl
    (code_step k 0x02 Load _ i refl (code_step k 0x84 LoadRandom _ i refl (code_step k 0x10 Execute _ i refl (code_step k 0xD8 BlockErase _ i refl
    (code_step k 0xFF Reset _ i refl (never (λ h. cc))))))))))))))

-- the same of an operation
work_step : (P : Type 0) (t : Bool) (x y : Option Work) (w : Work) → (t ≡ true → x ≡ Some w → P) → (y ≡ Some w → P) → cond t x y ≡ Some w → P
work_step P true x y w f g h = f refl h
work_step P false x y w f g h = g h

module _ (s : State) (k r u : ℕ) (w : Work) where
  nowhere : None ≡ Some w → faced_work s w ≡ faced s k r u
  nowhere = never (λ h. cc)

  work_back : work_at k r u ≡ Some w → faced_work s w ≡ faced s k r u
  work_back =
      work_step (faced_work s w ≡ faced s k r u) (eqb k 0) _ _ w
      (λ e. work_step (faced_work s w ≡ faced s k r u) (eqb r 0) _ _ w (λ e1. work_step (faced_work s w ≡ faced s k r u) (eqb u 0) _ _ w
      (λ e2 h. let q : w ≡ Idle = cc in rw (q, eqb-true k 0 e, eqb-true r 0 e1, eqb-true u 0 e2)) nowhere) nowhere)
      (work_step (faced_work s w ≡ faced s k r u) (eqb k 1) _ _ w (λ e h. let q : w ≡ Busy (Read (row r)) u = cc in rw (q, eqb-true k 1 e))
      (work_step (faced_work s w ≡ faced s k r u) (eqb k 2) _ _ w (λ e h. let q : w ≡ Busy (Program (row r)) u = cc in rw (q, eqb-true k 2 e))
      (work_step (faced_work s w ≡ faced s k r u) (eqb k 3) _ _ w (λ e h. let q : w ≡ Busy (Erase (row r)) u = cc in rw (q, eqb-true k 3 e))
      (work_step (faced_work s w ≡ faced s k r u) (eqb k 4) _ _ w
      (λ e. work_step (faced_work s w ≡ faced s k r u) (eqb r 0) _ _ w (λ e1 h. let q : w ≡ Busy Restart u = cc in rw (q, eqb-true k 4 e, eqb-true r 0 e1)) nowhere)
      nowhere))))

flag_back : (n : ℕ) → n ≤ 1 → flag (eqb n 1) ≡ n
flag_back n h = go (eqb n 1) refl
  where
    go : (t : Bool) → eqb n 1 ≡ t → flag t ≡ n
    go true e = sym (eqb-true n 1 e)
    go false e = omega (arith, eqb-false n 1 e)

pub face_back : FaceBack
unfolding state_of face_of
face_back c s = go (instruction_at c.instruction) refl (work_at c.job c.row c.units) refl
  where
    good : (i : Instruction) (w : Work) (a b : Bool) → instruction_at c.instruction ≡ Some i → work_at c.job c.row c.units ≡ Some w → leb c.wp 1 ≡ a → leb c.selected 1 ≡ b
        → cond (a && b) (Some (state_as c i w)) None ≡ Some s → faced_work s s.work ≡ c
    good i w true true ei ew ea eb h =
        let q : s ≡ state_as c i w = cc in
        rw (q, work_back (state_as c i w) c.job c.row c.units w ew, code_back c.instruction i ei, flag_back c.wp (leb-true c.wp 1 ea), flag_back c.selected (leb-true c.selected 1 eb))
    good i w true false ei ew ea eb h = never (λ h. cc) h
    good i w false b ei ew ea eb h = never (λ h. cc) h

    go : (k : Option Instruction) → instruction_at c.instruction ≡ k → (d : Option Work) → work_at c.job c.row c.units ≡ d → told_code c k d ≡ Some s → faced_work s s.work ≡ c
    go (Some i) ei (Some w) ew h = good i w (leb c.wp 1) (leb c.selected 1) ei ew refl refl h
    go (Some i) ei None ew h = never (λ h. cc) h
    go None ei d ew h = never (λ h. cc) h

-- ---- the stand-in

pub never_sound : NeverSound
unfolding sound_state
never_sound g = refl
