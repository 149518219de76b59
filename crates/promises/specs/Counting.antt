-- What each call counts: the heartbeat's ticks, and each PDO's ticks and SYNCs. So `counts_after` of specs/Moments.antt
-- restarts and goes on exactly where 01's chapter "The waiting line" says, at every node and in every state.
use Rattle.std.specs.Prelude.{ℕ, suc, ◌*◌, ◌<◌, eqb, ◌≡◌, ◌⊎◌, ◌↔◌, true, false, cond, List, [], ◌∷◌, ◌++◌}
use Rattle.can.specs.declared.Received.{Received}
use Rattle.entries.specs.declared.Pdo.{Pdo}
use Rattle.dictionary.specs.Accepted.{on}
use Rattle.parts.specs.declared.Head.{Head}
use Rattle.parts.specs.declared.Sensor.{Sensor}
use Rattle.promises.specs.States.{operational, is_in, communication, PdoNumber, one, two, pdo, to_enter}
use Rattle.promises.specs.Calls.{Call, receive, tick, sample, slot}
use Rattle.promises.specs.Meant.{Commands, Synchronises, Writes}
use Rattle.promises.specs.Histories.{after, PowerUp, powered}
use Rattle.promises.specs.Gap.{node_of}
use Rattle.promises.specs.Codes.{code_after}
use Rattle.promises.specs.Timers.{OnEvents, OnSyncs}
use Rattle.promises.specs.Moments.{EachOf, counts_after}

-- sub 1 of 1800h or 1801h
abbrev pub sub1 : PdoNumber → ℕ
sub1 one = 0x1800_01
sub1 two = 0x1801_01

-- counted from entry or from switching on (bit 31 of sub 1 goes from 1 to 0),
abbrev pub EntersOrSwitches : PdoNumber → Head → Received → Type 0
EntersOrSwitches w h f =
    (Commands h f (to_enter operational) × (is_in operational h.core ≡ false))
    ⊎ ((v : ℕ) × Writes h f (sub1 w) v × (on v ≡ true) × (on (pdo (communication h.core) w).identifier ≡ false))

-- or from a write to sub 5; 6200-0 is 1800-5 under a second index
abbrev pub WritesSub5 : PdoNumber → Head → Received → Type 0
WritesSub5 one h f = (v : ℕ) × (Writes h f 0x1800_05 v ⊎ Writes h f 0x6200_00 v)
WritesSub5 two h f = (v : ℕ) × Writes h f 0x1801_05 v

pub record Counting (p : PowerUp) (cs : List Call) : Type 0 where
  -- every n ticks, at each n-th SYNC: n > 0, and this one makes the count a multiple of n
  pub turns : (n count : ℕ) → EachOf n count ↔ ((0 < n) × (m : ℕ) × (suc count ≡ m * n))
  -- Types 254 and 255; types 1..240
  pub on_events : (p : Pdo) → OnEvents p ↔ ((253 < p.transmission) × (p.transmission < 256))
  pub on_syncs : (p : Pdo) → OnSyncs p ↔ ((0 < p.transmission) × (p.transmission < 241))
  -- From power-up nothing is counted yet.
  pub at_first : let n = counts_after p [] in (n.beats ≡ 0) × ((w : PdoNumber) → (n.ticks w ≡ 0) × (n.syncs w ≡ 0))
  -- A tick counts: for the heartbeat unless Initialising, for a PDO when Operational.
  pub ticks : let n = counts_after p cs in let m = counts_after p (cs ++ tick ∷ []) in let code = code_after (node_of p) cs in
      (m.beats ≡ cond (eqb code 0x00) n.beats (suc n.beats))
      × ((w : PdoNumber) → (m.ticks w ≡ cond (eqb code 0x05) (suc (n.ticks w)) (n.ticks w)) × (m.syncs w ≡ n.syncs w))
  -- The heartbeat is counted from .. entry to Pre-operational after boot-up. No other slot changes a count, and no sample does.
  pub slots : let n = counts_after p cs in let m = counts_after p (cs ++ slot ∷ []) in
      (m.beats ≡ cond (eqb (code_after (node_of p) cs) 0x00) 0 n.beats)
      × ((w : PdoNumber) → (m.ticks w ≡ n.ticks w) × (m.syncs w ≡ n.syncs w))
  pub samples : (s : Sensor) → let n = counts_after p cs in let m = counts_after p (cs ++ sample s ∷ []) in
      (m.beats ≡ n.beats) × ((w : PdoNumber) → (m.ticks w ≡ n.ticks w) × (m.syncs w ≡ n.syncs w))
  -- A frame: the heartbeat is counted from its write,
  pub beats_anew_law : let h = after (powered p) cs in (f : Received) (v : ℕ) → Writes h f 0x1017_00 v
      → (counts_after p (cs ++ receive f ∷ [])).beats ≡ 0
  pub beats_on : let h = after (powered p) cs in (f : Received) → ((v : ℕ) → Writes h f 0x1017_00 v → ⊥)
      → (counts_after p (cs ++ receive f ∷ [])).beats ≡ (counts_after p cs).beats
  -- a PDO's ticks from entry, from switching on, or from a write to sub 5,
  pub ticks_anew_law : let h = after (powered p) cs in (f : Received) (w : PdoNumber) → EntersOrSwitches w h f ⊎ WritesSub5 w h f
      → (counts_after p (cs ++ receive f ∷ [])).ticks w ≡ 0
  pub ticks_on : let h = after (powered p) cs in (f : Received) (w : PdoNumber) → (EntersOrSwitches w h f ⊎ WritesSub5 w h f → ⊥)
      → (counts_after p (cs ++ receive f ∷ [])).ticks w ≡ (counts_after p cs).ticks w
  -- its SYNCs from entry or from switching on; and a SYNC counts.
  pub syncs_anew_law : let h = after (powered p) cs in (f : Received) (w : PdoNumber) → EntersOrSwitches w h f
      → (counts_after p (cs ++ receive f ∷ [])).syncs w ≡ 0
  pub syncs_one_more : let h = after (powered p) cs in (f : Received) (w : PdoNumber) → (EntersOrSwitches w h f → ⊥) → Synchronises h f
      → (counts_after p (cs ++ receive f ∷ [])).syncs w ≡ suc ((counts_after p cs).syncs w)
  pub syncs_on : let h = after (powered p) cs in (f : Received) (w : PdoNumber) → (EntersOrSwitches w h f → ⊥) → (Synchronises h f → ⊥)
      → (counts_after p (cs ++ receive f ∷ [])).syncs w ≡ (counts_after p cs).syncs w
