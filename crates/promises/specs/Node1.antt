-- Node 1, powered up as in 01's chapter "Worked numbers", and the frames that its master sends: for runs of calls from power-up.
use Rattle.std.specs.Prelude.{ℕ, false, List, [], ◌∷◌}
use Rattle.can.specs.declared.Received.{Received}
use Rattle.dictionary.specs.Worked.{identity1}
use Rattle.sdo.specs.Worked.{bytes}
use Rattle.parts.specs.declared.Head.{Head}
use Rattle.promises.specs.Calls.{Call, receive, slot, powered_up}

abbrev pub node1 : Head
node1 = (powered_up 1 identity1).head

abbrev pub data_frame : ℕ → ℕ → List ℕ → Received
data_frame identifier length content = record { identifier = identifier; extended = false; remote = false; length = length; bytes = content }

-- a service request
abbrev pub to_node1 : List ℕ → Received
to_node1 b = data_frame 0x601 8 b

abbrev pub request : List ℕ → Call
request b = receive (to_node1 b)

abbrev pub read6004 : List ℕ
read6004 = bytes 0x40 0x04 0x60 0x00 0 0 0 0

abbrev pub asks : Call
asks = request read6004

-- a write, and its reply sent
abbrev pub writes : List ℕ → List Call
writes b = request b ∷ slot ∷ []

-- an NMT command to all nodes
abbrev pub to_all : ℕ → Received
to_all b = data_frame 0x000 2 (bytes b 0 0 0 0 0 0 0)

abbrev pub command : ℕ → Call
command b = receive (to_all b)

abbrev pub sync : Call
sync = receive (data_frame 0x080 0 (bytes 0 0 0 0 0 0 0 0))
