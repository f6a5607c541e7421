-- The write masks: a mask applied twice is the mask applied once, so a register written is within its mask.
use mathlib.Core.Bool.{not, ◌&&◌}
use mathlib.Core.Path.{◌≡◌, refl, sym, ap, ap₂, ◌∙◌}
use Prim.Native.Nat.{ℕ, zero, ◌+◌, ◌*◌, ◌/◌, ◌%◌, min}
use native.Mathlib.Omega.{arith}
use lib.Arith.{bin_ind}
use lib.Bits.{bit_and, and_step, and_shr, and_zero_l, and_self}
use lib.Dec.{eqb}
use Rattle.part.specs.declared.Geometry.{Geometry}
use Rattle.part.specs.declared.Stepping.{Stepping}
use Rattle.part.specs.declared.Stepping.TheVariants.{First, Second}
use Rattle.part.proofs.Bits.{and_odd}
use Rattle.part.proofs.Choice.{cond_keep}
use Rattle.registers.specs.Registers.{mask_of, a0_mask, b0_mask, d0_mask, at_power_up, locked, register_written}
use Rattle.registers.specs.declared.Pins.{Pins}
use Rattle.registers.specs.declared.Registers.{Registers}
use Rattle.soundness.specs.Soundness.{Within}

-- ---- AND is associative

-- the half of an AND
and_half : (a b : ℕ) → bit_and a b / 2 ≡ bit_and (a / 2) (b / 2)
and_half a b = and_shr a b 1

and_assoc : (a b c : ℕ) → bit_and (bit_and a b) c ≡ bit_and a (bit_and b c)
and_assoc a = bin_ind (λ (a : ℕ). (b c : ℕ) → bit_and (bit_and a b) c ≡ bit_and a (bit_and b c)) base step a
  where
    base : (b c : ℕ) → bit_and (bit_and zero b) c ≡ bit_and zero (bit_and b c)
    base b c = ap (λ (x : ℕ). bit_and x c) (and_zero_l b) ∙ and_zero_l c ∙ sym (and_zero_l (bit_and b c))

    step : (n : ℕ) → ((b c : ℕ) → bit_and (bit_and (n / 2) b) c ≡ bit_and (n / 2) (bit_and b c)) → (b c : ℕ) → bit_and (bit_and n b) c ≡ bit_and n (bit_and b c)
    step n ih b c =
        let low : min (bit_and n b % 2) (c % 2) ≡ min (n % 2) (bit_and b c % 2) = omega (arith, and_odd n b, and_odd b c) in
        and_step (bit_and n b) c
        ∙ ap₂ (λ (x y : ℕ). x * 2 + y)
        (ap (λ (x : ℕ). bit_and x (c / 2)) (and_half n b) ∙ ih (b / 2) (c / 2) ∙ ap (λ (x : ℕ). bit_and (n / 2) x) (sym (and_half b c)))
        low
        ∙ sym (and_step n (bit_and b c))

-- ---- registers within their masks

-- what a mask leaves is within it
masked : (mask v : ℕ) → Within mask (bit_and v mask)
masked mask v = and_assoc v mask mask ∙ ap (bit_and v) (and_self mask)

-- A0h, B0h and D0h within theirs
pub record InMasks (g : Geometry) (r : Registers) : Type 0 where
  pub a0 : Within (a0_mask g) r.a0
  pub b0 : Within b0_mask r.b0
  pub d0 : Within d0_mask r.d0

-- another status register leaves them so
pub masks_as : (g : Geometry) {a b c c' d : ℕ} → InMasks g (record { a0 = a; b0 = b; c0 = c; d0 = d }) → InMasks g (record { a0 = a; b0 = b; c0 = c'; d0 = d })
masks_as g h = record { a0 = h.a0; b0 = h.b0; d0 = h.d0 }

-- the power-up values are within the masks
pub start_in_masks : (g : Geometry) → InMasks g at_power_up
start_in_masks g = record { a0 = start g.stepping; b0 = refl; d0 = refl }
  where
    start : (st : Stepping) → Within (mask_of st) at_power_up.a0
    start First = refl
    start Second = refl

-- a register written is within its mask, and the others are as they were
pub written_in_masks : (g : Geometry) (p : Pins) (a v : ℕ) (r : Registers) → InMasks g r → InMasks g (register_written g p a v r)
unfolding register_written
written_in_masks g p a v r h =
    record {
      a0 = cond_keep (Within (a0_mask g)) (eqb a 0xA0 && not (locked r p)) (λ e. masked (a0_mask g) v) (λ e. h.a0);
      b0 = cond_keep (Within b0_mask) (eqb a 0xB0) (λ e. masked b0_mask v) (λ e. h.b0);
      d0 = cond_keep (Within d0_mask) (eqb a 0xD0) (λ e. masked d0_mask v) (λ e. h.d0);
    }
