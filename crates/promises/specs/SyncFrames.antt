-- "A SYNC frame belongs to its SYNC" (2/13), for every list of calls from power-up. SYNCs are counted from the calls, as in
-- specs/Moments.antt; the positions that the head has fixed are not read.
use Rattle.std.specs.Prelude.{ℕ, eqb, leb, ◌≡◌, Bool, true, false, not, ◌&&◌, ◌||◌, cond, List, [], ◌∷◌, ◌++◌, Some as Number}
use Rattle.std.proofs.Math.Option.{some}
use Rattle.can.specs.declared.Frame.{Frame}
use Rattle.can.specs.declared.Received.{Received}
use Rattle.can.specs.Number.{low_first}
use Rattle.position.specs.Position as formula
use Rattle.dictionary.specs.Accepted.{on}
use Rattle.parts.specs.declared.Sensor.TheVariants.{Missing, Raw}
use Rattle.promises.specs.States.{operational, is_in, PdoNumber}
use Rattle.promises.specs.Timers.{OnEvents, OnSyncs}
use Rattle.promises.specs.WaitingLine.{tpdo, frame_of}
use Rattle.promises.specs.Calls.{Call, receive, tick, sample, slot, step, slot_answer, is_frame, frame_in}
use Rattle.promises.specs.Valid.{waits}
use Rattle.promises.specs.Meant.{Synchronises}
use Rattle.promises.specs.Histories.{after, PowerUp, powered}
use Rattle.promises.specs.FiveSlots.{Sends, WaitsThrough}
use Rattle.promises.specs.Gap.{how_many, is_position}
use Rattle.promises.specs.Readings.{reads_in, profile_of, last_sample}
use Rattle.promises.specs.Moments.{pdo_of, EachOf, counts_after}

-- The position of a sample r, with the settings that the head has after the calls.
abbrev pub position_then : PowerUp → List Call → ℕ → ℕ
position_then p cs r = formula.position (profile_of (after (powered p) cs)) r

-- After the calls cs, the call c fixes the position of PDO w, at the sample r: it is a SYNC, the PDO is on, of types 1 to 240 and due, and
-- the reading is good.
pub record Fixes (p : PowerUp) (cs : List Call) (c : Call) (w : PdoNumber) (r : ℕ) : Type 0 where
  pub frame : Received
  pub received : c ≡ receive frame
  pub synchronises : Synchronises (after (powered p) cs) frame
  pub switched_on_law : on (pdo_of (after (powered p) cs) w).identifier ≡ true
  pub type : OnSyncs (pdo_of (after (powered p) cs) w)
  -- at each n-th SYNC
  pub due : EachOf (pdo_of (after (powered p) cs) w).transmission ((counts_after p cs).syncs w)
  pub good : last_sample Missing cs ≡ Raw r

-- none of the calls ds, which follow the calls cs, fixes it
abbrev pub NoneFixes : PowerUp → PdoNumber → List Call → List Call → Type 0
NoneFixes p w cs [] = Unit {0}
NoneFixes p w cs (c ∷ ds) = ((r : ℕ) → Fixes p cs c w r → ⊥) × NoneFixes p w (cs ++ c ∷ []) ds

-- After the calls cs a frame of w waits that belongs to the SYNC behind the calls `before`: that SYNC fixed its position, through all calls
-- since then it waited, and none of them fixed it anew.
pub record Belongs (p : PowerUp) (cs : List Call) (w : PdoNumber) : Type 0 where
  pub before : List Call
  pub sync : Call
  pub since : List Call
  pub split : cs ≡ before ++ sync ∷ since
  pub raw : ℕ
  pub fixes : Fixes p before sync w raw
  pub waited : WaitsThrough (step (after (powered p) before) sync) since (tpdo w)
  pub last : NoneFixes p w (before ++ sync ∷ []) since

-- the position at that SYNC
abbrev pub its_position : {p : PowerUp} {cs : List Call} {w : PdoNumber} → Belongs p cs w → ℕ
its_position {p} b = position_then p b.before b.raw

-- TPDO: 4 bytes, the position, low byte first.
abbrev pub position_frame : ℕ → ℕ → Frame
position_frame identifier x = record { identifier = identifier; length = 4; bytes = low_first 4 x ++ 0 ∷ 0 ∷ 0 ∷ 0 ∷ [] }

-- When the position x that a frame of w carries was taken, and that the reading was good then: at the slot, or at its SYNC.
pub data Taken (p : PowerUp) (cs : List Call) (w : PdoNumber) : ℕ → Type 0 where
  at_slot : {r : ℕ} → OnEvents (pdo_of (after (powered p) cs) w) → last_sample Missing cs ≡ Raw r → Taken p cs w (position_then p cs r)
  at_sync : OnSyncs (pdo_of (after (powered p) cs) w) → (b : Belongs p cs w) → Taken p cs w (its_position b)

-- What two heads on one beam are given alike: samples, and SYNC frames (080h, data, length 0 or 1).
abbrev pub is_sync_frame : Call → Bool
is_sync_frame (receive f) = not (f.extended || f.remote) && eqb f.identifier 0x080 && leb f.length 1
is_sync_frame tick = false
is_sync_frame (sample s) = false
is_sync_frame slot = false

abbrev pub is_sample : Call → Bool
is_sample (receive f) = false
is_sample tick = false
is_sample (sample s) = true
is_sample slot = false

abbrev pub samples_and_syncs : List Call → List Call
samples_and_syncs [] = []
samples_and_syncs (c ∷ cs) = cond (is_sample c || is_sync_frame c) (c ∷ samples_and_syncs cs) (samples_and_syncs cs)

pub record SyncFrames : Type 0 where
  -- Each frame of a synchronous PDO that waits belongs to a SYNC,
  pub belongs : (p : PowerUp) (cs : List Call) (w : PdoNumber) → let h = after (powered p) cs in
      waits h (tpdo w) ≡ true → OnSyncs (pdo_of h w) → Belongs p cs w
  -- and carries the position of the sample that was good at its last due SYNC.
  pub carries : (p : PowerUp) (cs : List Call) (w : PdoNumber) (b : Belongs p cs w) → let h = after (powered p) cs in
      Sends h slot (tpdo w) → frame_in (slot_answer h) ≡ position_frame (pdo_of h w).identifier (its_position b)
  -- Call by call, from what 6004h reads. A missing sample no longer takes such a frame back: no call but a slot does, while the PDO stays
  -- switched on in Operational.
  pub stays : (p : PowerUp) (cs : List Call) (c : Call) (w : PdoNumber) → let h = after (powered p) cs in
      OnSyncs (pdo_of h w) → waits h (tpdo w) ≡ true → (c ≡ slot → ⊥) → is_in operational (step h c).core ≡ true
      → on (pdo_of (step h c) w).identifier ≡ true → waits (step h c) (tpdo w) ≡ true
  -- A due SYNC, whether the frame waits or not, fixes the position that 6004h reads then,
  pub anew : (p : PowerUp) (cs : List Call) (f : Received) (w : PdoNumber) (x : ℕ) → let h = after (powered p) cs in
      Synchronises h f → on (pdo_of h w).identifier ≡ true → OnSyncs (pdo_of h w)
      → EachOf (pdo_of h w).transmission ((counts_after p cs).syncs w)
      → reads_in h 0x6004 0 ≡ some (Number x)
      → frame_of (step h (receive f)).core (tpdo w)
      ≡ record { identifier = (pdo_of h w).identifier; length = 4; bytes = low_first 4 x ++ 0 ∷ 0 ∷ 0 ∷ 0 ∷ [] }
  -- and no other call, a SYNC that is not due included, changes what a waiting frame carries.
  pub unmoved : (p : PowerUp) (cs : List Call) (c : Call) (w : PdoNumber) → let h = after (powered p) cs in
      OnSyncs (pdo_of h w) → waits h (tpdo w) ≡ true → waits (step h c) (tpdo w) ≡ true
      → ((f : Received) → c ≡ receive f → Synchronises h f → EachOf (pdo_of h w).transmission ((counts_after p cs).syncs w) → ⊥)
      → (frame_of (step h c).core (tpdo w)).bytes ≡ (frame_of h.core (tpdo w)).bytes
  -- No frame leaves with a position taken while the reading was missing. (These are the position frames. A reply of 6004h is blank
  -- then: `blank` of specs/Readings.antt.)
  pub taken_while_good : (p : PowerUp) (cs : List Call) → let h = after (powered p) cs in
      is_frame (slot_answer h) ≡ true → is_position (frame_in (slot_answer h)) ≡ true
      → (w : PdoNumber) × (x : ℕ) × Taken p cs w x × (frame_in (slot_answer h) ≡ position_frame (pdo_of h w).identifier x)
  -- Two heads given the same samples and SYNCs send equal positions for the same SYNC, whatever slots each had. Each has a past of its own, ps
  -- and qs, which ends with the same sample. From then on samples and SYNCs are the same, whatever slots and other calls stand between
  -- them: cs and ds until each sends its frame, es and fs after that, so their slots may come at different times. The frames belong to the
  -- same SYNC: as many SYNCs came before it. The settings of the position have to be equal at that SYNC.
  pub equal : (p q : PowerUp) (ps qs cs ds es fs : List Call) (v w : PdoNumber) (a : Belongs p (ps ++ cs) v) (b : Belongs q (qs ++ ds) w)
      → let h = after (powered p) (ps ++ cs) in let g = after (powered q) (qs ++ ds) in
      last_sample Missing ps ≡ last_sample Missing qs
      → samples_and_syncs (cs ++ es) ≡ samples_and_syncs (ds ++ fs)
      → (us vs : List Call) → a.before ≡ ps ++ us → b.before ≡ qs ++ vs → how_many is_sync_frame us ≡ how_many is_sync_frame vs
      → profile_of (after (powered p) a.before) ≡ profile_of (after (powered q) b.before)
      → Sends h slot (tpdo v)
      → Sends g slot (tpdo w)
      → (frame_in (slot_answer h)).bytes ≡ (frame_in (slot_answer g)).bytes
