-- The units of an operation on a sound part, and 0 on one that is not.
use Rattle.part.specs.Part.{sound_part}
use Rattle.beside.proofs.Asked.{part_sound, asked_yes}
use Rattle.beside.proofs.operation_length.Goals as goal

pub length_of-requires : goal.length_of-requires
length_of-requires c = part_sound _ (asked_yes (sound_part c.args.g) c.sound.result c.sound.ensures c.if-not-sound.false-raw)
