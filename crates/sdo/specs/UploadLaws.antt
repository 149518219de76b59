-- What is due while a transfer t runs, or none, for every device and every request f, by the bytes of the request:
-- change request 1/13, read as docs/DECISIONS.md says. These laws check specs/Upload.
use Rattle.std.specs.Prelude.{ℕ, ◌+◌, ◌*◌, ◌/◌, ◌%◌, ◌≤◌, get_or, ◌≡◌, ◌↔◌, Bool, not, List, ◌∷◌}
use Rattle.can.specs.Number.{low_first}
use Rattle.names.specs.declared.Transfer.{Transfer}
use Rattle.names.specs.Segment.{segment_of}
use Rattle.names.specs.Transfer.{no_transfer, following}
use Rattle.entries.specs.declared.Device.{Device}
use Rattle.entries.specs.Identity.{name_of}
use Rattle.dictionary.specs.Valid.{ValidDevice}
use Rattle.sdo.specs.declared.reply.Effect.TheVariants.{Reply}
use Rattle.sdo.specs.declared.reply.Served.{Served}
use Rattle.sdo.specs.Request.{aborting}
use Rattle.sdo.specs.Reply.{replies, carried_out}
use Rattle.sdo.specs.Service.{none, confirmation, abort, answer, due}
use Rattle.sdo.specs.Upload.{due_in}
use Rattle.sdo.specs.Exactly.{Reads, Writes, ClientAborts}

-- The request asks for name k of 1008h, 1009h, 100Ah: the index in bytes 1 and 2, low byte first; sub-index 0 in byte 3.
pub record AsksName (k : ℕ) (f : List ℕ) : Type 0 where
  pub least : 1 ≤ k
  pub most : k ≤ 3
  pub index : get_or f 1 0 + 256 * get_or f 2 0 ≡ 0x1007 + k
  pub sub_index : get_or f 3 0 ≡ 0

-- A segment request has top bits 3.
abbrev pub AsksSegment : List ℕ → Type 0
AsksSegment f = get_or f 0 0 / 32 ≡ 3

abbrev pub Runs : Transfer → Type 0
Runs t = t.name ≡ 0 → ⊥

abbrev pub served_in : Device → Bool → Transfer → List ℕ → Served
served_in d o t f = answer f (due_in d o t f)

pub record UploadLaws (d : Device) (o : Bool) (t : Transfer) (f : List ℕ) : Type 0 where
  -- with no transfer running, and to any request but a segment's: 01's list
  pub idle : t.name ≡ 0 → due_in d o t f ≡ due d o f
  pub other : (AsksSegment f → ⊥) → due_in d o t f ≡ due d o f
  -- bit 4 is the toggle, 0 first: the segment that is due
  pub segment : Runs t → AsksSegment f → get_or f 0 0 / 16 % 2 ≡ t.segments % 2
      → let n = name_of d.identity t.name in
      served_in d o t f ≡ record { bytes = segment_of n t.segments; effect = Reply; transfer = following t n.length }
  -- A wrong toggle: 0503 0000h naming the entry of the transfer, and the transfer is over.
  pub wrong_toggle_law : Runs t → t.name ≤ 3 → AsksSegment f → (get_or f 0 0 / 16 % 2 ≡ t.segments % 2 → ⊥)
      → served_in d o t f
      ≡ record { bytes = 0x80 ∷ (0x07 + t.name) ∷ 0x10 ∷ 0x00 ∷ low_first 4 0x05030000; effect = Reply; transfer = no_transfer }
  -- With no transfer running a segment request is 0504 0001h with its own bytes 1..3.
  pub no_transfer_law : t.name ≡ 0 → AsksSegment f
      → served_in d o t f
      ≡ record { bytes = 0x80 ∷ get_or f 1 0 ∷ get_or f 2 0 ∷ get_or f 3 0 ∷ low_first 4 0x05040001; effect = Reply; transfer = no_transfer }
  -- A read of a name is answered 41h, bytes 1..3 repeated, size in bytes 4..7, for every length; it starts the transfer of that name.
  pub starts : (k : ℕ) → Reads f → AsksName k f
      → served_in d o t f
      ≡ record {
        bytes = 0x41 ∷ get_or f 1 0 ∷ get_or f 2 0 ∷ get_or f 3 0 ∷ low_first 4 (name_of d.identity k).length;
        effect = Reply;
        transfer = record { name = k; segments = 0 };
      }
  -- A write to it is 0601 0002h (step 3, before lengths).
  pub read_only : (k : ℕ) → Writes f → AsksName k f → due_in d o t f ≡ abort 0x06010002
  -- Every request but a segment's ends the transfer, whatever is answered; a read of a name starts another.
  pub ends : (Runs t → AsksSegment f → ⊥) → ((k : ℕ) → Reads f → AsksName k f → ⊥) → (served_in d o t f).transfer ≡ no_transfer
  -- The client's abort ends the transfer without a reply; every other request gets one.
  pub client : (due_in d o t f ≡ none) ↔ ClientAborts f
  pub replied : replies (served_in d o t f).effect ≡ not (aborting f)
  -- A segment alters no entry.
  pub confirmed : (k v : ℕ) → (due_in d o t f ≡ confirmation k v) ↔ (due d o f ≡ confirmation k v)
  pub valid : ValidDevice d → ValidDevice (carried_out d (served_in d o t f).effect)
