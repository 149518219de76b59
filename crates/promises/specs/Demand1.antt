-- Demand 1, in the customer's words: "Any frame, sample or tick may reach the head in any network state, and
-- the host may ask for a frame to send at any moment. Each call ends. A call is refused for exactly the inputs
-- that 01 lists; it then returns the number listed there, and a head that already ran is as it was before."
-- That each call ends needs no theorem: the checker admits no function that may not return.
use Rattle.std.specs.Prelude.{ℕ, ◌<◌, ◌≤◌, length, ◌≡◌, ◌↔◌, ◌⊎◌, true, false}
use Rattle.can.specs.declared.Received.{Received}
use Rattle.entries.specs.declared.Identity.{Identity}
use Rattle.dictionary.specs.Valid.{ValidDevice}
use Rattle.parts.specs.declared.Head.{Head}
use Rattle.parts.specs.declared.Sensor.{Sensor}
use Rattle.parts.specs.declared.Sensor.TheVariants.{Missing, Raw}
use Rattle.promises.specs.States.{started}
use Rattle.promises.specs.Calls.{Call, step, no_identity, powered_up, receive, sample, refusal_by}
use Rattle.promises.specs.Valid.{Valid}
use Rattle.promises.specs.Meant.{MeantFor, NotMeant}
use Rattle.promises.specs.Histories.{PowerUp, powered, Reachable}

-- an 11-bit identifier above 7FFh, or a 29-bit one above 1FFF FFFFh
abbrev pub BadIdentifier : Received → Type 0
BadIdentifier f = ((f.extended ≡ false) × (0x7FF < f.identifier)) ⊎ ((f.extended ≡ true) × (0x1FFFFFFF < f.identifier))

-- node number .. not 1..127
abbrev pub BadNode : ℕ → Type 0
BadNode n = (n < 1) ⊎ (127 < n)

-- strings of 1 to 32 bytes
abbrev pub NameFits : ℕ → Type 0
NameFits length = (1 ≤ length) × (length ≤ 32)

abbrev pub NamesFit : Identity → Type 0
NamesFit i = NameFits i.name.length × NameFits i.hardware.length × NameFits i.software.length

pub record Demand1 : Type 0 where
  -- Every head comes from power-up and is altered by calls only: so every head is valid, and a call requires no more.
  pub starts : (p : PowerUp) → Reachable (powered p)
  -- Power-up takes a node number N, four identity numbers and three names: any node number, any four numbers of 32 bits, and any
  -- three arrays of 32 bytes with their lengths
  pub takes_any : (n : ℕ) (i : Identity) → i.vendor < 0x100000000 → i.product < 0x100000000 → i.revision < 0x100000000
      → i.serial < 0x100000000 → length i.name.bytes ≡ 32 → length i.hardware.bytes ≡ 32 → length i.software.bytes ≡ 32
      → (p : PowerUp) × (p.number ≡ n) × (p.identity ≡ i)
  pub goes_on : (h : Head) (c : Call) → Reachable h → Reachable (step h c)
  pub valid : (h : Head) → Reachable h → Valid h
  -- the laws of the dictionary and of the service are for such devices
  pub valid_device : (h : Head) → Reachable h → ValidDevice h.core.device
  -- 1, given exactly when: an 11-bit identifier above 7FFh, or a 29-bit one above 1FFF FFFFh
  pub gives_1 : (h : Head) (f : Received) → (refusal_by (receive f) ≡ 1) ↔ BadIdentifier f
  -- 2: frame length above 8 (1 comes first)
  pub gives_2 : (h : Head) (f : Received) → (refusal_by (receive f) ≡ 2) ↔ ((BadIdentifier f → ⊥) × (8 < f.length))
  -- else 0, for no refusal
  pub takes_frame : (h : Head) (f : Received) → (refusal_by (receive f) ≡ 0) ↔ ((BadIdentifier f → ⊥) × (f.length ≤ 8))
  -- 3: raw sample above 1,048,575
  pub gives_3 : (h : Head) (r : ℕ) → (refusal_by (sample (Raw r)) ≡ 3) ↔ (1048575 < r)
  pub takes_sample : (h : Head) (r : ℕ) → (refusal_by (sample (Raw r)) ≡ 0) ↔ (r ≤ 1048575)
  pub takes_missing : (h : Head) → refusal_by (sample Missing) ≡ 0
  -- 4: node number at power-up not 1..127
  pub gives_4 : (n : ℕ) (i : Identity) → ((powered_up n i).refusal ≡ 4) ↔ BadNode n
  -- 5 for a name length out of range, after 4
  pub gives_5 : (n : ℕ) (i : Identity) → ((powered_up n i).refusal ≡ 5) ↔ ((BadNode n → ⊥) × (NamesFit i → ⊥))
  -- no refusal: such a node number, and names that fit
  pub takes_node : (n : ℕ) (i : Identity) → ((powered_up n i).refusal ≡ 0) ↔ (((1 ≤ n) × (n ≤ 127)) × NamesFit i)
  -- 1, 2 and 3: the number; head unchanged
  pub frame_refused : (h : Head) (f : Received) → (refusal_by (receive f) ≡ 0 → ⊥) → step h (receive f) ≡ h
  pub sample_refused : (h : Head) (s : Sensor) → (refusal_by (sample s) ≡ 0 → ⊥) → step h (sample s) ≡ h
  -- 4 and 5: the number, and a head of node 1 with identity numbers 0 and "?" for each name
  pub node_refused : (n : ℕ) (i : Identity) → ((powered_up n i).refusal ≡ 0 → ⊥) → (powered_up n i).head ≡ started 1 no_identity
  pub node_taken : (n : ℕ) (i : Identity) → (powered_up n i).refusal ≡ 0 → (powered_up n i).head ≡ started n i
  -- A frame neither refused nor meant for the head changes nothing: each reason why it is not meant is enough,
  pub not_meant : (h : Head) (f : Received) → Reachable h → NotMeant h f → step h (receive f) ≡ h
  -- and a frame that changes the head is one that 01 means for it.
  pub meant_or_nothing : (h : Head) (f : Received) → Reachable h → MeantFor h f ⊎ (step h (receive f) ≡ h)
