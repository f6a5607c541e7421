-- Document 01, "Registers". (Protection, which reads A0h, stands with the part.)
use Rattle.std.specs.Prelude.{Bool, not, ◌&&◌, ℕ, ◌+◌, ◌*◌, ◌/◌, ◌%◌, eqb, if◌then◌else◌}
use Rattle.std.specs.Int.Bits.{bit_and}
use Rattle.part.specs.declared.Geometry.{Geometry}
use Rattle.part.specs.declared.Stepping.{Stepping}
use Rattle.part.specs.declared.Stepping.TheVariants.{First, Second}
use Rattle.registers.specs.declared.Registers.{Registers}
use Rattle.registers.specs.declared.Pins.{Pins}

-- ---- the status register, C0h: 0 OIP, 1 WEL, 2 E_FAIL, 3 P_FAIL, 6-4 ECCS

-- OIP is 1; WEL is 1
abbrev pub oip : ℕ → Bool
oip c = eqb (c % 2) 1

abbrev pub wel : ℕ → Bool
wel c = eqb (c / 2 % 2) 1

-- one bit set or cleared, the others as they were
abbrev pub oip_set : ℕ → ℕ
oip_set c = c / 2 * 2 + 1

abbrev pub oip_cleared : ℕ → ℕ
oip_cleared c = c / 2 * 2

abbrev pub wel_set : ℕ → ℕ
wel_set c = c / 4 * 4 + 2 + c % 2

abbrev pub wel_cleared : ℕ → ℕ
wel_cleared c = c / 4 * 4 + c % 2

-- WEL and both fail bits cleared
abbrev pub request_cleared : ℕ → ℕ
request_cleared c = c / 16 * 16 + c % 2

-- E_FAIL and P_FAIL set, where both are 0
abbrev pub e_fail_set : ℕ → ℕ
e_fail_set c = c + 4

abbrev pub p_fail_set : ℕ → ℕ
p_fail_set c = c + 8

-- what a reset leaves: OIP, both fail bits and ECCS are 0, WEL is as it was
abbrev pub reset_status : ℕ → ℕ
reset_status c = c / 2 % 2 * 2

-- ---- the write masks, and the values at power-up (C0h but for the OIP of the read that then begins)

-- of A0h, by the stepping: the second has bit 1, CMP
abbrev pub mask_of : Stepping → ℕ
mask_of First = 0xBC
mask_of Second = 0xBE

-- of a part
abbrev pub a0_mask : Geometry → ℕ
a0_mask g = mask_of g.stepping

abbrev pub b0_mask : ℕ
b0_mask = 0x11

abbrev pub d0_mask : ℕ
d0_mask = 0x60

abbrev pub at_power_up : Registers
at_power_up = record { a0 = 0x38; b0 = 0x10; c0 = 0x00; d0 = 0x40 }

-- ---- read and written by address

-- other addresses read 00h
unfoldable pub register : Registers → ℕ → ℕ
register r a =
    if eqb a 0xA0 then r.a0
    else if eqb a 0xB0 then r.b0
    else if eqb a 0xC0 then r.c0
    else if eqb a 0xD0 then r.d0
    else 0

-- BRWD is 1 and WP# is low
abbrev pub locked : Registers → Pins → Bool
locked r p = eqb (r.a0 / 128) 1 && not p.wp

-- written through its mask; a write to another address or to C0h does nothing, nor does one of A0h while it is locked
unfoldable pub register_written : Geometry → Pins → ℕ → ℕ → Registers → Registers
register_written g p a v r =
    record {
      a0 = if eqb a 0xA0 && not (locked r p) then bit_and v (a0_mask g) else r.a0;
      b0 = if eqb a 0xB0 then bit_and v b0_mask else r.b0;
      c0 = r.c0;
      d0 = if eqb a 0xD0 then bit_and v d0_mask else r.d0;
    }
