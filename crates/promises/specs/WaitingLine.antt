-- 01's chapter "The waiting line": the kinds, under which conditions each may join and may stay, and the frame that each sends.
use Rattle.std.specs.Prelude.{ℕ, ◌+◌, eqb, Bool, not, ◌&&◌, ◌||◌, cond, List, [], ◌∷◌, map}
use Rattle.std.specs.Bool.{beq}
use Rattle.cases.specs.Padded.{pad}
use Rattle.can.specs.declared.Frame.{Frame}
use Rattle.can.specs.Number.{low_first}
use Rattle.position.specs.Position.{position}
use Rattle.entries.specs.declared.Pdo.{Pdo}
use Rattle.dictionary.specs.Accepted.{on}
use Rattle.waiting.specs.Line as line
use Rattle.parts.specs.declared.Nmt.{Nmt}
use Rattle.parts.specs.declared.Core.{Core}
use Rattle.promises.specs.States.{PdoNumber, one, two, operational, code, live, is_live, node}
use Rattle.promises.specs.States.{communication, good, pdo, fixed_for, initialising_code}
use Rattle.promises.specs.Timers.{synchronous}

-- Five kinds can wait: emergency, SDO reply, heartbeat, TPDO1, TPDO2. The last two are the position frames.
pub data Kind : Type 0 where
  emergency : Kind
  sdo_reply : Kind
  heartbeat : Kind
  tpdo : PdoNumber → Kind

-- in the order just given, in which several join
abbrev pub kinds : List Kind
kinds = emergency ∷ sdo_reply ∷ heartbeat ∷ tpdo one ∷ tpdo two ∷ []

-- its number in the line
abbrev pub number : Kind → ℕ
number emergency = line.emergency
number sdo_reply = line.sdo_reply
number heartbeat = line.heartbeat
number (tpdo one) = line.tpdo1
number (tpdo two) = line.tpdo2

-- the numbers of those of a list that a test picks, in the list's order
abbrev pub those_of : (Kind → Bool) → List Kind → List ℕ
those_of t [] = []
those_of t (k ∷ ks) = cond (t k) (number k ∷ those_of t ks) (those_of t ks)

-- the kinds that a test picks, in the order in which they join
abbrev pub those : (Kind → Bool) → List ℕ
those t = those_of t kinds

-- what the test says of each kind, in the same order: one flag for each kind
abbrev pub flags_of : (Kind → Bool) → List Bool
flags_of t = map t kinds

-- Emergency: waits exactly while the state is Pre-operational or Operational, bit 31 of 1014h is 0, no inhibit time runs,
-- and the present reading (good or missing) differs from the one last announced.
abbrev pub may_alert : Nmt → ℕ → ℕ → Bool → Bool → Bool
may_alert s identifier inhibit good announced = live s && on identifier && eqb inhibit 0 && not (beq good announced)

-- Heartbeat: if H > 0; in Initialising only the boot-up frame waits.
abbrev pub may_beat : Nmt → ℕ → Bool
may_beat s period = not (eqb s.code initialising_code) && not (eqb period 0)

-- TPDO: only when Operational, switched on (bit 31 of sub 1 is 0) and the reading is good may it join.
abbrev pub may_show : Nmt → ℕ → Bool → Bool
may_show s identifier good = eqb s.code (code operational) && on identifier && good

-- A missing sample takes back only a frame of types 254 and 255: a frame of types 1 to 240 stays, whatever the reading.
abbrev pub may_keep : Nmt → Pdo → Bool → Bool
may_keep s p good = may_show s p.identifier (synchronous p || good)

-- the emergency's condition
abbrev pub is_alerting : Core → Bool
is_alerting c = may_alert c.nmt (communication c).emergency c.timers.inhibit (good c) c.announced

-- The condition under which a waiting kind stays; 01's withdrawals end it. For the SDO reply it is that of the request:
-- Pre-operational or Operational. For a PDO it ends when Operational is left and when the PDO is switched off, and
-- for types 254 and 255 also at a missing sample.
abbrev pub may_stay : Core → Kind → Bool
may_stay c emergency = is_alerting c
may_stay c sdo_reply = is_live c
may_stay c heartbeat = may_beat c.nmt (communication c).heartbeat
may_stay c (tpdo w) = may_keep c.nmt (pdo (communication c) w) (good c)

-- The condition under which a kind joins when it is due. A kind that may join may stay (proofs/Waits.antt, `join_stay`).
abbrev pub may_join : Core → Kind → Bool
may_join c emergency = is_alerting c
may_join c sdo_reply = is_live c
may_join c heartbeat = may_beat c.nmt (communication c).heartbeat
may_join c (tpdo w) = may_show c.nmt (pdo (communication c) w).identifier (good c)

-- the position at the present sample
abbrev pub present : Core → ℕ
present c = position c.device.settings.profile c.device.reading.raw

-- The position that a PDO's frame carries. Types 254 and 255: the position at the slot. Types 1 to 240: the position that is
-- fixed when the frame joins, or anew at the next due SYNC if it still waits.
abbrev pub carried : Pdo → (atSlot fixed : ℕ) → ℕ
carried p atSlot fixed = cond (synchronous p) fixed atSlot

abbrev pub frame : ℕ → ℕ → List ℕ → Frame
frame identifier length bytes = record { identifier = identifier; length = length; bytes = pad 8 bytes }

-- 700h+N: of the boot-up frame and of the heartbeat
abbrev pub heartbeat_identifier : Core → ℕ
heartbeat_identifier c = 0x700 + node c

-- the boot-up frame (700h+N, one byte 00h)
abbrev pub boot_up_frame : Core → Frame
boot_up_frame c = frame (heartbeat_identifier c) 1 (initialising_code ∷ [])

-- 00 50 01 and five zeros for missing (code 5000h), eight zeros for good
abbrev pub emergency_bytes : Bool → List ℕ
emergency_bytes good = cond good [] (0x00 ∷ 0x50 ∷ 0x01 ∷ [])

-- The SDO reply's bytes are fixed at the request, a synchronous PDO's position at its SYNC; all else is made at the slot.
abbrev pub frame_of : Core → Kind → Frame
-- Frame 80h+N, 8 bytes
frame_of c emergency = frame (0x80 + node c) 8 (emergency_bytes (good c))
-- Reply: 580h+N, 8 bytes
frame_of c sdo_reply = record { identifier = 0x580 + node c; length = 8; bytes = c.reply }
-- Heartbeat: 700h+N, one byte, the state code.
frame_of c heartbeat = frame (heartbeat_identifier c) 1 (c.nmt.code ∷ [])
-- TPDO: 4 bytes, the position, low byte first.
frame_of c (tpdo w) =
    let p = pdo (communication c) w in frame p.identifier 4 (low_first 4 (carried p (present c) (fixed_for c.fixed w)))
