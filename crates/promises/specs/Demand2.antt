-- Demand 2, in the customer's words: "The head behaves as CiA 301 and CiA 406 require in the form 01 gives them. Each service request that
-- 01 has the head serve gets the value, the confirmation or the abort code that is due. An accepted write has exactly the effects named for
-- it, an aborted write alters no entry, and a position is the exact result of scaling, direction, preset and range."
use Rattle.std.specs.Prelude.{List}
use Rattle.parts.specs.declared.Head.{Head}
use Rattle.parts.specs.declared.Sensor.TheVariants.{Missing}
use Rattle.promises.specs.Calls.{Call}
use Rattle.promises.specs.Histories.{after, PowerUp, powered, Reachable}
use Rattle.promises.specs.NetworkStates.{NetworkStates}
use Rattle.promises.specs.Starts.{Starts}
use Rattle.promises.specs.Codes.{Codes}
use Rattle.promises.specs.Words.{Words}
use Rattle.promises.specs.Parameters.{Parameters}
use Rattle.promises.specs.Moments.{Moments}
use Rattle.promises.specs.Counting.{Counting}
use Rattle.promises.specs.PassedOver.{PassedOver}
use Rattle.promises.specs.Emergency.{Emergency}
use Rattle.promises.specs.Service.{Serves, Answers}
use Rattle.promises.specs.Transfers.{Transfers}
use Rattle.promises.specs.NamesRead.{NamesRead}
use Rattle.promises.specs.Readings.{Tells, last_sample, Positioned}
use Rattle.promises.specs.Effects.{ServedRightly}
use Rattle.promises.specs.Resets.{Resets}
use Rattle.promises.specs.Staying.{Staying}
use Rattle.promises.specs.ByEntries.{ByEntries}
use Rattle.promises.specs.ErrorList.{ErrorList}
use Rattle.promises.specs.Worked.{Worked, Printed}

pub record Demand2 : Type 0 where
  -- The head behaves as CiA 301 and CiA 406 require in the form 01 gives them: what it starts with; its states, and what the heartbeat
  -- and the position frames say; save, load and the two resets;
  pub starts : Starts
  pub states : NetworkStates
  pub codes : Codes
  -- (in terms that mean what 01 says)
  pub words : Words
  pub resets : Resets
  -- what entries read later;
  pub staying : Staying
  -- when each kind joins the waiting line;
  pub moments : (p : PowerUp) (cs : List Call) → Moments p cs
  -- (with ticks and SYNCs counted call by call,)
  pub counting : (p : PowerUp) (cs : List Call) → Counting p cs
  -- (with 1014h, 1015h, 1017h, and each PDO's sub 1, sub 2 and sub 5, as they read)
  pub parameters : (h : Head) → Parameters h
  -- that a due moment with a missing reading is passed over;
  pub passed_over : (p : PowerUp) (cs : List Call) → PassedOver p cs
  -- what the emergency says when it leaves, and what it then announces;
  pub emergency : (p : PowerUp) (cs : List Call) → Emergency p cs
  -- 1003h counts good-to-missing changes since the list was emptied, at most 4;
  -- 6004h is blank exactly while missing, 1001h and 6503h say so;
  pub error_list : (p : PowerUp) (cs : List Call) → ErrorList p cs
  pub tells : (p : PowerUp) (cs : List Call) → Tells (after (powered p) cs) (last_sample Missing cs)
  -- P1 to P12, and the session that 01 prints.
  pub worked : Worked
  pub printed : Printed
  -- Each service request that 01 has the head serve gets the value, the confirmation or the abort code that is due,
  pub gets_what_is_due : (h : Head) → Reachable h → Serves h
  -- over any sequence of calls.
  pub answers : (p : PowerUp) (cs : List Call) → Answers p cs
  -- A name is read in segments: what each call does to the transfer, and that the client receives exactly the name.
  pub transfers : Transfers
  pub names_read : NamesRead
  -- An accepted write has exactly the effects named for it, an aborted write alters no entry,
  pub served_rightly : ServedRightly
  -- and a position is the exact result of scaling, direction, preset and range.
  pub positioned : (h : Head) → Reachable h → Positioned h
  pub by_entries : ByEntries
