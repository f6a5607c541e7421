-- Document 01, "Instructions": a byte shifted in with its answer on DO, and what an instruction does as chip select rises.
use Rattle.std.specs.Prelude.{List, [], ◌∷◌, ℕ, if◌then◌else◌}
use Rattle.part.specs.declared.Geometry.{Geometry}
use Rattle.part.specs.declared.Row.{Row}
use Rattle.registers.specs.Registers.{oip, wel, wel_set, wel_cleared, request_cleared, e_fail_set, p_fail_set, reset_status, register_written}
use Rattle.transfer.specs.Transfer.{shifted_in, cached, row_of, ends, full}
use Rattle.codes.specs.declared.Instruction.{Instruction}
use Rattle.codes.specs.declared.Instruction.TheVariants.{Ignored, WriteEnable, WriteDisable, GetFeature, SetFeature, ReadId, PageRead, ReadCache, Load, LoadRandom, Execute, BlockErase, Reset}
use Rattle.array.specs.Jobs.{with_cache}
use Rattle.array.specs.declared.Job.TheVariants.{Read, Program, Erase, Restart}
use Rattle.array.specs.declared.Work.TheVariants.{Idle}
use Rattle.reply.specs.Reply.{byte_out}
use Rattle.requests.specs.Requests.{Fate, begins?, program_fate, erase_fate, counted, uncounted}
use Rattle.device.specs.declared.State.{State}
use Rattle.device.specs.Machine.{Machine, regs_in, work_in, status_in, with_state, over_bus, over_store, with_status, with_counts}
use Rattle.device.specs.Work.{Array}

-- ---- a byte shifted

-- one byte shifted in on DI
unfoldable pub shifts : Geometry → ℕ → Machine → Machine
shifts g b m =
    let s = m.state in
    over_bus (shifted_in g (oip s.regs.c0) b) (over_store (λ x. with_cache (cached g s.bus b x.cache) x) m)

-- the byte on DO meanwhile. (Which byte that is stands with the reply.)
unfoldable pub answer : Geometry → State → List ℕ → ℕ
answer g s cache = byte_out g s.regs s.bus cache

-- bytes shifted in one after another: the machine then
unfoldable pub fed : Geometry → List ℕ → Machine → Machine
fed g [] m = m
fed g (b ∷ bs) m = fed g bs (shifts g b m)

-- and the bytes on DO meanwhile
unfoldable pub replies : Geometry → List ℕ → Machine → List ℕ
replies g [] m = []
replies g (b ∷ bs) m = answer g m.state m.store.cache ∷ replies g bs (shifts g b m)

-- ---- 10h and D8h. (Whether a request begins, and what it does to the page counts, stands with the requests.)

-- with WEL 0 a request does nothing; otherwise WEL and both fail bits are cleared first, and then it is as its fate says
abbrev pub requested : Fate → (Machine → Machine) → (ℕ → ℕ) → Machine → Machine
requested f go fail m =
    let c = request_cleared m.state.regs.c0 in
    if wel m.state.regs.c0 then if begins? f then go (with_status c m) else with_status (fail c) m
    else m

-- 10h: the count rises by 1 and the operation begins, or P_FAIL is set
unfoldable pub programs : Geometry → Array → Row → Machine → Machine
programs g arr r m =
    requested (program_fate g m.state.regs.a0 r m.counts) (λ m. arr.begin (Program r) (with_counts (counted r m.counts) m)) p_fail_set m

-- D8h: the block's counts become 0 and it begins, or E_FAIL is set
unfoldable pub erases : Geometry → Array → Row → Machine → Machine
erases g arr r m =
    requested (erase_fate g m.state.regs.a0 r) (λ m. arr.begin (Erase r) (with_counts (uncounted g r m.counts) m)) e_fail_set m

-- ---- FFh

-- no operation is in progress, and only WEL is left of the status register
abbrev pub reset_state : State → State
reset_state s = work_in Idle (status_in (reset_status s.regs.c0) s)

-- a reset stops an operation after the units done, another reset's too, and then is itself an operation (document 02, item 2)
unfoldable pub resets : Array → Machine → Machine
resets arr m = let m₁ = arr.cut m in arr.begin Restart (with_state (reset_state m₁.state) m₁)

-- ---- 1Fh

-- the register at the address takes the value
abbrev pub written_state : Geometry → State → State
written_state g s = let t = s.bus.transfer in regs_in (register_written g s.bus.pins t.first t.second s.regs) s

-- ---- all of them

-- what an instruction does, its bytes all there
unfoldable pub effect : Geometry → Array → Instruction → Machine → Machine
effect g arr WriteEnable m = with_status (wel_set m.state.regs.c0) m
effect g arr WriteDisable m = with_status (wel_cleared m.state.regs.c0) m
effect g arr SetFeature m = with_state (written_state g m.state) m
effect g arr PageRead m = arr.begin (Read (row_of m.state.bus.transfer)) m
effect g arr Execute m = programs g arr (row_of m.state.bus.transfer) m
effect g arr BlockErase m = erases g arr (row_of m.state.bus.transfer) m
effect g arr Reset m = resets arr m
effect g arr Ignored m = m
effect g arr GetFeature m = m
effect g arr ReadId m = m
effect g arr ReadCache m = m
effect g arr Load m = m
effect g arr LoadRandom m = m

-- only if exactly its bytes were shifted
unfoldable pub acted : Geometry → Array → Machine → Machine
acted g arr m = let t = m.state.bus.transfer in if full t then effect g arr t.instruction m else m

-- chip select rises; while not selected it changes nothing
unfoldable pub deselects : Geometry → Array → Machine → Machine
deselects g arr m = if m.state.bus.transfer.selected then over_bus ends (acted g arr m) else m
