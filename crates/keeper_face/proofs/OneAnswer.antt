-- T7 for this crate: each function's contract allows one answer.
use mathlib.Core.Path.{◌∙◌, sym}
use Rattle.part.specs.OneAnswer.{OneAnswer}
use Rattle.keeper_face.proofs.sleet_keeper_new.Reads as new-reads
use Rattle.keeper_face.proofs.sleet_keeper_new.Kinds as new-kinds
use Rattle.keeper_face.proofs.sleet_keeper_add.Reads as add_reads
use Rattle.keeper_face.proofs.sleet_keeper_add.Kinds as add-kinds
use Rattle.keeper_face.proofs.sleet_keeper_grant.Reads as grant-reads
use Rattle.keeper_face.proofs.sleet_keeper_grant.Kinds as grant-kinds

pub new_one : OneAnswer 0 new-kinds.ps new-kinds.r new-reads.Post
new_one κs a x y s t p q = p ∙ sym q

pub add_one : OneAnswer 0 add-kinds.ps add-kinds.r add_reads.Post
add_one κs a x y s t p q = p ∙ sym q

pub grant_one : OneAnswer 0 grant-kinds.ps grant-kinds.r grant-reads.Post
grant_one κs a x y s t p q = p ∙ sym q
