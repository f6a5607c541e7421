-- T7 for this crate: each public function's contract allows one answer.
use mathlib.Core.Path.{◌∙◌, sym}
use denote.RattleType.{RattleType}
use denote.Param.Laws.{Laws}
use mir.Syntax.{Dict}
use Rattle.part.specs.OneAnswer.{OneAnswer}
use Rattle.keeper.proofs.number_of.Reads as number-of-reads
use Rattle.keeper.proofs.number_of.Kinds as number-of-kinds
use Rattle.keeper.proofs.number_in.Reads as number-in-reads
use Rattle.keeper.proofs.number_in.Kinds as number-in-kinds
use Rattle.keeper.proofs.Queue.sound.Reads as queue-sound-reads
use Rattle.keeper.proofs.Queue.sound.Kinds as queue-sound-kinds
use Rattle.keeper.proofs.Keeper.new.Reads as new-reads
use Rattle.keeper.proofs.Keeper.new.Kinds as new-kinds
use Rattle.keeper.proofs.Keeper.sound.Reads as sound-reads
use Rattle.keeper.proofs.Keeper.sound.Kinds as sound-kinds
use Rattle.keeper.proofs.Keeper.add.Reads as add_reads
use Rattle.keeper.proofs.Keeper.add.Kinds as add-kinds
use Rattle.keeper.proofs.Keeper.grant.Reads as grant-reads
use Rattle.keeper.proofs.Keeper.grant.Kinds as grant-kinds

pub number_of_one : OneAnswer 0 number-of-kinds.ps number-of-kinds.r number-of-reads.Post
number_of_one κs a x y s t p q = p ∙ sym q

-- of any type that is told where nothing is refused, however it is let go
pub number_in_one : (A : RattleType) (laws : Laws A) (drop : Dict) → OneAnswer 1 (number-in-kinds.ps A laws) (number-in-kinds.r A laws) (number-in-reads.Post A laws drop)
number_in_one A laws drop κs a x y s t p q = p ∙ sym q

pub queue_sound_one : OneAnswer 0 queue-sound-kinds.ps queue-sound-kinds.r queue-sound-reads.Post
queue_sound_one κs a x y s t p q = p ∙ sym q

pub new_one : OneAnswer 0 new-kinds.ps new-kinds.r new-reads.Post
new_one κs a x y s t p q = p ∙ sym q

pub sound_one : OneAnswer 0 sound-kinds.ps sound-kinds.r sound-reads.Post
sound_one κs a x y s t p q = p ∙ sym q

pub add_one : OneAnswer 0 add-kinds.ps add-kinds.r add_reads.Post
add_one κs a x y s t p q = p ∙ sym q

pub grant_one : OneAnswer 0 grant-kinds.ps grant-kinds.r grant-reads.Post
grant_one κs a x y s t p q = p ∙ sym q
