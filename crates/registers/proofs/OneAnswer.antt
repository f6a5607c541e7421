-- T7 for this crate: each public function's contract allows one answer.
use mathlib.Core.Path.{◌∙◌, sym}
use Rattle.part.specs.OneAnswer.{OneAnswer}
use Rattle.registers.proofs.Registers.at_power_up.Reads as power-up-reads
use Rattle.registers.proofs.Registers.at_power_up.Kinds as power-up-kinds
use Rattle.registers.proofs.Registers.read.Reads as read-reads
use Rattle.registers.proofs.Registers.read.Kinds as read-kinds
use Rattle.registers.proofs.Registers.written.Reads as written-reads
use Rattle.registers.proofs.Registers.written.Kinds as written-kinds
use Rattle.registers.proofs.a0_mask.Reads as a0-mask-reads
use Rattle.registers.proofs.a0_mask.Kinds as a0-mask-kinds
use Rattle.registers.proofs.oip.Reads as oip-reads
use Rattle.registers.proofs.oip.Kinds as oip-kinds
use Rattle.registers.proofs.wel.Reads as wel-reads
use Rattle.registers.proofs.wel.Kinds as wel-kinds
use Rattle.registers.proofs.oip_set.Reads as oip-set-reads
use Rattle.registers.proofs.oip_set.Kinds as oip-set-kinds
use Rattle.registers.proofs.oip_cleared.Reads as oip-cleared-reads
use Rattle.registers.proofs.oip_cleared.Kinds as oip-cleared-kinds
use Rattle.registers.proofs.wel_set.Reads as wel-set-reads
use Rattle.registers.proofs.wel_set.Kinds as wel-set-kinds
use Rattle.registers.proofs.wel_cleared.Reads as wel-cleared-reads
use Rattle.registers.proofs.wel_cleared.Kinds as wel-cleared-kinds
use Rattle.registers.proofs.request_cleared.Reads as request-cleared-reads
use Rattle.registers.proofs.request_cleared.Kinds as request-cleared-kinds
use Rattle.registers.proofs.erase_failed.Reads as erase-failed-reads
use Rattle.registers.proofs.erase_failed.Kinds as erase-failed-kinds
use Rattle.registers.proofs.program_failed.Reads as program-failed-reads
use Rattle.registers.proofs.program_failed.Kinds as program-failed-kinds
use Rattle.registers.proofs.reset_status.Reads as reset-status-reads
use Rattle.registers.proofs.reset_status.Kinds as reset-status-kinds

pub power_up_one : OneAnswer 0 power-up-kinds.ps power-up-kinds.r power-up-reads.Post
power_up_one κs a x y s t p q = p ∙ sym q

pub read_one : OneAnswer 0 read-kinds.ps read-kinds.r read-reads.Post
read_one κs a x y s t p q = p ∙ sym q

pub written_one : OneAnswer 0 written-kinds.ps written-kinds.r written-reads.Post
written_one κs a x y s t p q = p ∙ sym q

pub a0_mask_one : OneAnswer 0 a0-mask-kinds.ps a0-mask-kinds.r a0-mask-reads.Post
a0_mask_one κs a x y s t p q = p ∙ sym q

pub oip_one : OneAnswer 0 oip-kinds.ps oip-kinds.r oip-reads.Post
oip_one κs a x y s t p q = p ∙ sym q

pub wel_one : OneAnswer 0 wel-kinds.ps wel-kinds.r wel-reads.Post
wel_one κs a x y s t p q = p ∙ sym q

pub oip_set_one : OneAnswer 0 oip-set-kinds.ps oip-set-kinds.r oip-set-reads.Post
oip_set_one κs a x y s t p q = p ∙ sym q

pub oip_cleared_one : OneAnswer 0 oip-cleared-kinds.ps oip-cleared-kinds.r oip-cleared-reads.Post
oip_cleared_one κs a x y s t p q = p ∙ sym q

pub wel_set_one : OneAnswer 0 wel-set-kinds.ps wel-set-kinds.r wel-set-reads.Post
wel_set_one κs a x y s t p q = p ∙ sym q

pub wel_cleared_one : OneAnswer 0 wel-cleared-kinds.ps wel-cleared-kinds.r wel-cleared-reads.Post
wel_cleared_one κs a x y s t p q = p ∙ sym q

pub request_cleared_one : OneAnswer 0 request-cleared-kinds.ps request-cleared-kinds.r request-cleared-reads.Post
request_cleared_one κs a x y s t p q = p ∙ sym q

pub erase_failed_one : OneAnswer 0 erase-failed-kinds.ps erase-failed-kinds.r erase-failed-reads.Post
erase_failed_one κs a x y s t p q = p ∙ sym q

pub program_failed_one : OneAnswer 0 program-failed-kinds.ps program-failed-kinds.r program-failed-reads.Post
program_failed_one κs a x y s t p q = p ∙ sym q

pub reset_status_one : OneAnswer 0 reset-status-kinds.ps reset-status-kinds.r reset-status-reads.Post
reset_status_one κs a x y s t p q = p ∙ sym q
