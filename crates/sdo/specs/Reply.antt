-- The reply to a request, "8 bytes, bytes 1..3 of the request repeated,
-- unused bytes 0", and what the request does. 01, chapter "Service requests".
use Rattle.std.specs.Prelude.{ℕ, eqb, Bool, true, false, cond, List, [], ◌∷◌, None as Blank, Some as Number}
use Rattle.can.specs.Number.{low_first}
use Rattle.names.specs.declared.Transfer.{Transfer}
use Rattle.names.specs.Transfer.{no_transfer, starting}
use Rattle.entries.specs.declared.Device.{Device}
use Rattle.dictionary.specs.Shown.{Shown}
use Rattle.dictionary.specs.Writes.{put}
use Rattle.sdo.specs.AbortCodes.{shown_code}
use Rattle.sdo.specs.declared.reply.Effect.{Effect}
use Rattle.sdo.specs.declared.reply.Effect.TheVariants.{Nothing, Reply, Write}
use Rattle.sdo.specs.declared.reply.Served.{Served}
use Rattle.sdo.specs.Request.{byte, index_of}

-- Whether a reply joins.
abbrev pub replies : Effect → Bool
replies Nothing = false
replies Reply = true
replies (Write k v) = true

-- The device after the request. A write has the name of what it alters.
abbrev pub carried_out : Device → Effect → Device
carried_out d Nothing = d
carried_out d Reply = d
carried_out d (Write k v) = put d k v

abbrev pub framed : ℕ → List ℕ → ℕ → List ℕ
framed first f content = first ∷ byte f 1 ∷ byte f 2 ∷ byte f 3 ∷ low_first 4 content

-- Read answers 4Fh, 4Bh, 43h for 1, 2, 4 bytes; a name is answered 41h, for every length;
abbrev pub command : ℕ → ℕ
command width = cond (eqb width 1) 0x4F (cond (eqb width 2) 0x4B (cond (eqb width 4) 0x43 0x41))

-- A read of a name starts its transfer. Every other reply ends the transfer that ran.
abbrev pub answered : List ℕ → ℕ → ℕ → Served
answered f width n = record { bytes = framed (command width) f n; effect = Reply; transfer = starting (index_of f) }

-- write 60h;
abbrev pub confirmed : List ℕ → ℕ → ℕ → Served
confirmed f k v = record { bytes = framed 0x60 f 0; effect = Write k v; transfer = no_transfer }

-- abort 80h with the code, low byte first.
abbrev pub aborted : List ℕ → ℕ → Served
aborted f code = record { bytes = framed 0x80 f code; effect = Reply; transfer = no_transfer }

-- The client's abort: no reply, and no effect but that it ends the transfer.
abbrev pub no_reply : Served
no_reply = record { bytes = 0 ∷ 0 ∷ 0 ∷ 0 ∷ 0 ∷ 0 ∷ 0 ∷ 0 ∷ []; effect = Nothing; transfer = no_transfer }

-- the segment that is due, and the transfer that it leaves
abbrev pub segmented : List ℕ → Transfer → Served
segmented bytes t = record { bytes = bytes; effect = Reply; transfer = t }

-- A read of a blank: 0800 0024h
abbrev pub shown_reply : List ℕ → ℕ → Shown → Served
shown_reply f width Blank = aborted f (shown_code Blank)
shown_reply f width (Number n) = answered f width n
