-- The units left: of the operation in progress, if part and state are sound, and 0 otherwise.
use native.Mathlib.Omega.{arith}
use Rattle.part.specs.Part.{sound_part}
use Rattle.array.specs.declared.Work.TheVariants.{Idle}
use Rattle.device.specs.Sound.{sound_state}
use Rattle.beside.proofs.Asked.{part_sound, asked_no, asked_yes}
use Rattle.beside.proofs.Left.{left_no_part, left_no_state, left_told, left_going}
use Rattle.beside.proofs.units_left.Goals as goal

pub returns-then-not-sound : goal.returns-then-not-sound
returns-then-not-sound c = left_no_part _ _ (asked_no (sound_part c.args.g) c.sound.result c.sound.ensures c.if-not-sound.true-raw)

pub returns-then-not-sound-2 : goal.returns-then-not-sound-2
returns-then-not-sound-2 c = left_no_state _ _ (asked_yes (sound_part c.args.g) c.sound.result c.sound.ensures c.if-not-sound.false-raw) (asked_no (sound_state c.args.g c.args.state) c.sound-2.result c.sound-2.ensures c.if-not-sound-2.true-raw)

pub length_of-requires : goal.length_of-requires
length_of-requires c = part_sound _ (asked_yes (sound_part c.args.g) c.sound.result c.sound.ensures c.if-not-sound.false-raw)

pub overflow_sub-result : goal.overflow_sub-result
overflow_sub-result c = omega (arith, c.length_of.ensures, left_going _ _ (asked_yes (sound_state c.args.g c.args.state) c.sound-2.result c.sound-2.ensures c.if-not-sound-2.false-raw) _ _ c.in-Busy.is)

pub returns-in-Idle : goal.returns-in-Idle
returns-in-Idle c = left_told _ _ (asked_yes (sound_part c.args.g) c.sound.result c.sound.ensures c.if-not-sound.false-raw) (asked_yes (sound_state c.args.g c.args.state) c.sound-2.result c.sound-2.ensures c.if-not-sound-2.false-raw) Idle c.in-Idle.is

pub returns-in-Busy : goal.returns-in-Busy
returns-in-Busy c = rw c.length_of.ensures (left_told _ _ (asked_yes (sound_part c.args.g) c.sound.result c.sound.ensures c.if-not-sound.false-raw) (asked_yes (sound_state c.args.g c.args.state) c.sound-2.result c.sound-2.ensures c.if-not-sound-2.false-raw) _ c.in-Busy.is)
