-- Save, load and the two resets: which settings each leaves, and how a head starts after a reset. 01, chapters "States" and "Entries".
use Rattle.std.specs.Prelude.{ℕ, eqb, ltb, ◌≡◌, Bool, true, false, not, ◌&&◌, ◌||◌, cond, List, [], ◌∷◌, ◌⊎◌, Some as Number}
use Rattle.std.proofs.Math.Option.{some}
use Rattle.can.specs.declared.Received.{Received}
use Rattle.entries.specs.declared.Device.{Device}
use Rattle.entries.specs.declared.Settings.{Settings}
use Rattle.entries.specs.Settings.{factory}
use Rattle.dictionary.specs.Accepted.{on}
use Rattle.dictionary.specs.Reads.{reads}
use Rattle.dictionary.specs.Effects.{read_back}
use Rattle.sdo.specs.Request.{index_of, sub_of}
use Rattle.waiting.specs.Line as line
use Rattle.waiting.specs.Places.{waiting}
use Rattle.parts.specs.declared.Core.{Core}
use Rattle.parts.specs.declared.Head.{Head}
use Rattle.promises.specs.States.{pre_operational, state, is_initialising, node, communication, good}
use Rattle.promises.specs.States.{at_rest, Reset, of_node, of_communication, restored, to_reset}
use Rattle.promises.specs.Acts.{reset_to}
use Rattle.promises.specs.Calls.{Call, receive, tick, sample, slot, step}
use Rattle.promises.specs.Meant.{Commands, Writes}
use Rattle.promises.specs.Histories.{after, Reachable}
use Rattle.promises.specs.Readings.{reads_in}

-- the indices below 2000h; 6200-0 is 1800-5 under a second index
abbrev pub restored_by82 : ℕ → Bool
restored_by82 i = ltb i 0x2000 || eqb i 0x6200

-- The settings from which an entry of index i reads after a reset.
abbrev pub settings_for : Reset → Device → ℕ → Settings
-- 81h sets all settings to the saved set;
settings_for of_node d i = d.saved
-- 82h only those below 2000h.
settings_for of_communication d i = cond (restored_by82 i) d.saved d.settings

-- 81h sets all settings to the saved set; 82h only those below 2000h. Both enter Initialising, .. end any inhibit time and forget what was
-- announced ("good" counts as announced). Reading and error list stay.
pub record Restarted (r : Reset) (before after : Core) : Type 0 where
  pub initialising : is_initialising after ≡ true
  pub timers : after.timers ≡ at_rest
  pub announced : after.announced ≡ true
  pub settings : after.device.settings ≡ restored r before.device.settings before.device.saved
  pub saved : after.device.saved ≡ before.device.saved
  pub reading : after.device.reading ≡ before.device.reading
  pub errors : after.device.errors ≡ before.device.errors

pub record HasReset (r : Reset) (h a : Head) : Type 0 where
  -- (the head is not Operational then)
  pub entries : (i j : ℕ) → let d = h.core.device in reads_in a i j ≡ reads (reset_to d (settings_for r d i)) false i j
  pub restarted : Restarted r h.core a.core
  pub node : a.core.device.node ≡ h.core.device.node
  pub identity : a.core.device.identity ≡ h.core.device.identity
  -- empty the waiting line
  pub line : waiting a.line ≡ []

-- The slot that sends the boot-up frame.
pub record HasBooted (h a : Head) : Type 0 where
  -- enters Pre-operational
  pub nmt : a.core.nmt ≡ state pre_operational
  pub device : a.core.device ≡ h.core.device
  pub announced : a.core.announced ≡ true
  pub timers : a.core.timers ≡ at_rest
  -- Nothing waits, except the emergency if bit 31 of 1014h is 0 and the
  -- reading is missing: it differs from "good", which counts as announced.
  pub line : waiting a.line ≡ cond (on (communication h.core).emergency && not (good h.core)) (line.emergency ∷ []) []

-- A call is an accepted write of 1010-1 or 1011-1.
abbrev pub Saves : Head → Call → Type 0
Saves h (receive f) = (v : ℕ) × (Writes h f 0x1010_01 v ⊎ Writes h f 0x1011_01 v)
Saves h tick = ⊥
Saves h (sample s) = ⊥
Saves h slot = ⊥

-- A call is an accepted write or a reset.
abbrev pub Alters : Head → Call → Type 0
Alters h (receive f) = ((k : ℕ) × (v : ℕ) × Writes h f k v) ⊎ ((r : Reset) × Commands h f (to_reset r))
Alters h tick = ⊥
Alters h (sample s) = ⊥
Alters h slot = ⊥

-- None of the calls is such a call.
abbrev pub None : (Head → Call → Type 0) → Head → List Call → Type 0
None Such h [] = Unit {0}
None Such h (c ∷ cs) = (Such h c → ⊥) × None Such (step h c) cs

-- After an accepted write to the entry of key k, and then any calls but a save or a load, a reset restores the settings s.
abbrev pub Restores : ℕ → (Head → Settings) → Type 0
Restores k s =
    (h : Head) → Reachable h → (f : Received) (v : ℕ) → Writes h f k v → (cs : List Call) → None Saves (step h (receive f)) cs
    → let later = after (step h (receive f)) cs in (g : Received) (r : Reset) → Commands later g (to_reset r)
    → (step later (receive g)).core.device.settings ≡ restored r later.core.device.settings (s h)

pub record Resets : Type 0 where
  pub resets : (h : Head) → Reachable h → (f : Received) (r : Reset) → Commands h f (to_reset r) → HasReset r h (step h (receive f))
  pub boots : (h : Head) → Reachable h → is_initialising h.core ≡ true → HasBooted h (step h slot)
  -- no call but an accepted write or a reset changes the settings,
  pub settings_stay : (h : Head) → Reachable h → (cs : List Call) → None Alters h cs
      → (after h cs).core.device.settings ≡ h.core.device.settings
  -- so that what was written is read after any other calls; only 1003-0 goes on counting;
  pub reads_on : (h : Head) → Reachable h → (f : Received) (k v : ℕ) → Writes h f k v → (k ≡ 0x1003_00 → ⊥) → (cs : List Call)
      → None Alters (step h (receive f)) cs
      → reads_in (after (step h (receive f)) cs) (index_of f.bytes) (sub_of f.bytes) ≡ some (Number (read_back k v))
  -- and no call but an accepted write of 1010-1 or 1011-1 changes the saved set
  pub saved_stays : (h : Head) → Reachable h → (cs : List Call) → None Saves h cs → (after h cs).core.device.saved ≡ h.core.device.saved
  -- "save" copies the settings (.. plus the offset) to the saved set.
  pub saves : Restores 0x1010_01 (λ h. h.core.device.settings)
  -- "load" makes the saved set factory; running settings change at the next reset.
  pub loads : Restores 0x1011_01 (λ h. factory (node h.core))
  -- Neither alters what an entry reads now.
  pub runs_on : (h : Head) → Reachable h → (f : Received) → Saves h (receive f) → (i j : ℕ)
      → reads_in (step h (receive f)) i j ≡ reads_in h i j
