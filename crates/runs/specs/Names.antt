-- A client reads a name of eight bytes in two segments, with a tick, a sample and a SYNC between, or a name of one byte.
-- These runs meet the conditions of `NamesRead` of crate promises. Change request 1/13.
use Rattle.std.specs.Prelude.{ℕ, List, [], ◌∷◌}
use Rattle.names.specs.Name.{named}
use Rattle.entries.specs.declared.Identity.{Identity}
use Rattle.sdo.specs.Worked.{bytes}
use Rattle.parts.specs.declared.Head.{Head}
use Rattle.parts.specs.declared.Sensor.TheVariants.{Raw}
use Rattle.promises.specs.Calls.{Call, receive, tick, sample, slot, step, powered_up}
use Rattle.promises.specs.Histories.{after}
use Rattle.promises.specs.Node1.{to_node1, command, sync}
use Rattle.promises.specs.NamesRead.{Exchange, Receives}

abbrev pub text : List ℕ
text = 0x4C ∷ 0x49 ∷ 0x4E ∷ 0x45 ∷ 0x2D ∷ 0x41 ∷ 0x58 ∷ 0x31 ∷ []

abbrev pub long_named : Identity
long_named =
    record {
      vendor = 1;
      product = 2;
      revision = 3;
      serial = 4;
      name = named text 8;
      hardware = named (0x32 ∷ []) 1;
      software = named (0x33 ∷ []) 1;
    }

-- the boot-up frame and the emergency are sent, and the node is started
abbrev pub asked : Head
asked = after (powered_up 1 long_named).head (slot ∷ slot ∷ command 0x01 ∷ [])

abbrev pub first : List ℕ
first = bytes 0x40 0x08 0x10 0x00 0 0 0 0

abbrev pub announced : Head
announced = after (step asked (receive (to_node1 first))) (tick ∷ slot ∷ [])

-- toggle 0 first; the other bits and bytes are ignored
abbrev pub segment0 : List ℕ
segment0 = bytes 0x6F 0xFF 0 0 0 0 0 0

-- the reply is sent before the emergency and the position that the SYNC asks for
abbrev pub meanwhile : List Call
meanwhile = sample (Raw 100) ∷ sync ∷ slot ∷ slot ∷ slot ∷ []

abbrev pub segment1 : List ℕ
segment1 = bytes 0x70 0 0 0 0 0 0 0

-- the client reads 100Ah
abbrev pub software : List ℕ
software = bytes 0x40 0x0A 0x10 0x00 0 0 0 0

pub record Naming : Type 0 where
  pub begins : Exchange 1 asked (to_node1 first) (tick ∷ slot ∷ []) (bytes 0x41 0x08 0x10 0x00 0x08 0x00 0x00 0x00)
  pub exchanged : Exchange 1 announced (to_node1 segment0) meanwhile (bytes 0x00 0x4C 0x49 0x4E 0x45 0x2D 0x41 0x58)
  pub receives : Receives 1 announced 0 text
  pub third : Receives 1 (after (step asked (receive (to_node1 software))) (slot ∷ [])) 0 (0x33 ∷ [])
