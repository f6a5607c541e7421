-- The machine: the device state and its lent memory, and one part of it changed.
use Rattle.std.specs.Prelude.{List, ℕ}
use Rattle.array.specs.Jobs.{Store, store, with_cells, with_cache}
use Rattle.array.specs.declared.Work.{Work}
use Rattle.registers.specs.declared.Registers.{Registers}
use Rattle.transfer.specs.declared.Bus.{Bus}
use Rattle.device.specs.declared.State.{State}

-- the state, the cells and the cache register, and the page counts
pub record Machine : Type 0 where
  pub state : State
  pub store : Store
  pub counts : List ℕ

abbrev pub machine : State → List ℕ → List ℕ → List ℕ → Machine
machine s cells cache counts = record { state = s; store = store cells cache; counts = counts }

abbrev pub with_state : State → Machine → Machine
with_state s m = record { state = s; store = m.store; counts = m.counts }

abbrev pub with_store : Store → Machine → Machine
with_store s m = record { state = m.state; store = s; counts = m.counts }

abbrev pub over_store : (Store → Store) → Machine → Machine
over_store f m = with_store (f m.store) m

abbrev pub with_counts : List ℕ → Machine → Machine
with_counts l m = record { state = m.state; store = m.store; counts = l }

-- a machine with another state and, of its memory, other cells, another cache register, other counts: what a method has in hand. All the
-- rest is the machine's own
abbrev pub on_cache : State → List ℕ → Machine → Machine
on_cache s cache m = with_state s (over_store (with_cache cache) m)

abbrev pub on_counts : State → List ℕ → Machine → Machine
on_counts s counts m = with_state s (with_counts counts m)

abbrev pub on_store : State → List ℕ → List ℕ → Machine → Machine
on_store s cells cache m = with_state s (over_store (λ x. with_cells cells (with_cache cache x)) m)

-- the state's parts
abbrev pub regs_in : Registers → State → State
regs_in r s = record { regs = r; bus = s.bus; work = s.work }

abbrev pub bus_in : Bus → State → State
bus_in x s = record { regs = s.regs; bus = x; work = s.work }

abbrev pub work_in : Work → State → State
work_in w s = record { regs = s.regs; bus = s.bus; work = w }

abbrev pub status_in : ℕ → State → State
status_in c s = regs_in (record { a0 = s.regs.a0; b0 = s.regs.b0; c0 = c; d0 = s.regs.d0 }) s

abbrev pub with_status : ℕ → Machine → Machine
with_status c m = with_state (status_in c m.state) m

abbrev pub with_work : Work → Machine → Machine
with_work w m = with_state (work_in w m.state) m

abbrev pub over_bus : (Bus → Bus) → Machine → Machine
over_bus f m = with_state (bus_in (f m.state.bus) m.state) m
