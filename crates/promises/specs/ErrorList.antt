-- The error list over any sequence of calls: 1003-0 counts good-to-missing
-- changes since the list was emptied, at most 4. 01, chapter "Entries".
use Rattle.std.specs.Prelude.{ℕ, suc, ◌≤◌, min, eqb, ltb, ◌≡◌, ◌↔◌, Bool, true, ◌&&◌, cond, List, [], ◌∷◌, None as Blank, Some as Number}
use Rattle.std.proofs.Math.Option.{some}
use Rattle.can.specs.declared.Received.{Received}
use Rattle.dictionary.specs.Shown.{Shown}
use Rattle.parts.specs.declared.Head.{Head}
use Rattle.parts.specs.declared.Sensor.{Sensor}
use Rattle.parts.specs.declared.Sensor.TheVariants.{Missing, Raw}
use Rattle.promises.specs.Calls.{Call, receive, tick, sample, slot, step}
use Rattle.promises.specs.Meant.{due_to, Writes}
use Rattle.promises.specs.Histories.{after, PowerUp, powered}
use Rattle.promises.specs.Service.{is_request, confirms}
use Rattle.promises.specs.Readings.{reads_in, sample_by}

abbrev pub is_count : ℕ → ℕ → Bool
is_count k v = eqb k 0x1003_00

-- 1003-0: only 0 accepted, empties the list
abbrev pub empties : Head → Received → Bool
empties h f = is_request h f && confirms is_count (due_to h f)

-- The number of good-to-missing changes since the list was last emptied: before the call it is n, and s is the last sample.
-- In every state, also Initialising; only a good sample followed by a missing one is such a change.
abbrev pub losses_by : Head → Sensor → ℕ → Call → ℕ
losses_by h s n (receive f) = cond (empties h f) 0 n
losses_by h s n tick = n
losses_by h (Raw r) n (sample Missing) = suc n
losses_by h Missing n (sample Missing) = n
losses_by h s n (sample (Raw r)) = n
losses_by h s n slot = n

abbrev pub losses : Head → Sensor → ℕ → List Call → ℕ
losses h s n [] = n
losses h s n (c ∷ cs) = losses (step h c) (sample_by s c) (losses_by h s n c) cs

-- 1003-1..4: newest first, 0000 5000h per good-to-missing change; beyond the count they are blank.
abbrev pub shown_error : ℕ → ℕ → Shown
shown_error count j = cond (ltb count j) Blank (Number 0x5000)

-- What the entries read when the count is n.
pub record Lists (h : Head) (n : ℕ) : Type 0 where
  pub count : reads_in h 0x1003 0 ≡ some (Number n)
  pub error : (j : ℕ) → 1 ≤ j → j ≤ 4 → reads_in h 0x1003 j ≡ some (shown_error n j)
  pub emptied : (f : Received) → (empties h f ≡ true) ↔ Writes h f 0x1003_00 0

abbrev pub ErrorList : PowerUp → List Call → Type 0
ErrorList p cs = Lists (after (powered p) cs) (min 4 (losses (powered p) Missing 0 cs))
