-- The NMT states, power-up, the commands, and what a reset restores: 01, chapter "States".
use Rattle.std.specs.Prelude.{ℕ, eqb, Bool, true, false, ◌&&◌, ◌||◌, cond, [], ◌∷◌, get_or}
use Rattle.cases.specs.Cases.{first_of}
use Rattle.cases.specs.Padded.{pad}
use Rattle.can.specs.declared.Received.{Received}
use Rattle.names.specs.Transfer.{no_transfer}
use Rattle.entries.specs.declared.Communication.{Communication}
use Rattle.entries.specs.declared.Identity.{Identity}
use Rattle.entries.specs.declared.Pdo.{Pdo}
use Rattle.entries.specs.declared.Reading.{Reading}
use Rattle.entries.specs.declared.Settings.{Settings}
use Rattle.entries.specs.Settings.{factory}
use Rattle.waiting.specs.Line.{places}
use Rattle.parts.specs.declared.Nmt.{Nmt}
use Rattle.parts.specs.declared.Clock.{Clock}
use Rattle.parts.specs.declared.Timers.{Timers}
use Rattle.parts.specs.declared.Fixed.{Fixed}
use Rattle.parts.specs.declared.Core.{Core}
use Rattle.parts.specs.declared.Head.{Head}

-- Each NMT state is named with its heartbeat code: Stopped 04h, Operational 05h,
-- Pre-operational 7Fh. Initialising sends its 00h as the boot-up frame.
abbrev pub initialising_code : ℕ
initialising_code = 0x00

-- The states that a command enters.
pub data CommandedState : Type 0 where
  operational : CommandedState
  stopped : CommandedState
  pre_operational : CommandedState

abbrev pub code : CommandedState → ℕ
code operational = 0x05
code stopped = 0x04
code pre_operational = 0x7F

abbrev pub state : CommandedState → Nmt
state g = record { code = code g }

abbrev pub initialising : Nmt
initialising = record { code = initialising_code }

abbrev pub is_in : CommandedState → Core → Bool
is_in g c = eqb c.nmt.code (code g)

abbrev pub is_initialising : Core → Bool
is_initialising c = eqb c.nmt.code initialising_code

-- Pre-operational or Operational
abbrev pub live : Nmt → Bool
live s = eqb s.code (code pre_operational) || eqb s.code (code operational)

abbrev pub is_live : Core → Bool
is_live c = live c.nmt

abbrev pub node : Core → ℕ
node c = c.device.node

abbrev pub communication : Core → Communication
communication c = c.device.settings.communication

abbrev pub good : Core → Bool
good c = c.device.reading.good

-- the two PDOs
pub data PdoNumber : Type 0 where
  one : PdoNumber
  two : PdoNumber

abbrev pub pdo : Communication → PdoNumber → Pdo
pdo s one = s.pdo1
pdo s two = s.pdo2

abbrev pub clock : Timers → PdoNumber → Clock
clock t one = t.pdo1
clock t two = t.pdo2

abbrev pub uncounted : Clock
uncounted = record { ticks = 0; syncs = 0 }

-- no inhibit time runs, and nothing is counted
abbrev pub at_rest : Timers
at_rest = record { inhibit = 0; heartbeat = 0; pdo1 = uncounted; pdo2 = uncounted }

-- the position fixed for a PDO
abbrev pub fixed_for : Fixed → PdoNumber → ℕ
fixed_for x one = x.pdo1
fixed_for x two = x.pdo2

-- before the first SYNC: no frame carries these
abbrev pub unfixed : Fixed
unfixed = record { pdo1 = 0; pdo2 = 0 }

abbrev pub missing_reading : Reading
missing_reading = record { good = false; raw = 0 }

-- Power-up takes a node number N, four identity numbers and three names. It starts in Initialising with factory settings, the saved set
-- equal to them, the reading missing, the error list empty, "good" counted as announced.
abbrev pub started_core : ℕ → Identity → Core
started_core n i =
    record {
      device =
          record {
            node = n;
            identity = i;
            reading = missing_reading;
            errors = 0;
            settings = factory n;
            saved = factory n;
          };
      nmt = initialising;
      announced = true;
      timers = at_rest;
      reply = pad 8 [];
      fixed = unfixed;
    }

-- No name is being read. Only the boot-up frame waits: the state Initialising means that it does, and no kind stands in the line.
abbrev pub started : ℕ → Identity → Head
started n i = record { core = started_core n i; transfer = no_transfer; line = pad places [] }

-- 81h sets all settings to the saved set; 82h only those below 2000h.
pub data Reset : Type 0 where
  of_node : Reset
  of_communication : Reset

abbrev pub restored : Reset → Settings → Settings → Settings
restored of_node present saved = saved
restored of_communication present saved = record { communication = saved.communication; profile = present.profile }

-- 01h Operational, 02h Stopped, 80h Pre-operational, 81h reset node, 82h reset communication; others have no effect.
pub data Command : Type 0 where
  no_command : Command
  to_enter : CommandedState → Command
  to_reset : Reset → Command

abbrev pub reset_command : ℕ → Command
reset_command b = first_of ((eqb b 0x81, to_reset of_node) ∷ (eqb b 0x82, to_reset of_communication) ∷ []) no_command

abbrev pub command : ℕ → Command
command b =
    first_of ((eqb b 0x01, to_enter operational) ∷ (eqb b 0x02, to_enter stopped) ∷ (eqb b 0x80, to_enter pre_operational) ∷ []) (reset_command b)

abbrev pub byte_of : Received → ℕ → ℕ
byte_of f i = get_or f.bytes i 0

-- NMT command: identifier 000h, data, length 2, second byte 0 or N.
abbrev pub command_of : ℕ → Received → Command
command_of n f = cond (eqb f.length 2 && (eqb (byte_of f 1) 0 || eqb (byte_of f 1) n)) (command (byte_of f 0)) no_command
