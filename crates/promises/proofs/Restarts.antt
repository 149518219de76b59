-- Which counts a write restarts.
use Prim.Native.Nat.{ℕ}
use lib.Dec.{eqb}
use mathlib.Core.Path.{◌≡◌, refl, ap, ap₂, ◌∙◌}
use mathlib.Core.Bool.{Bool, true, false, not, ◌&&◌, ◌||◌, cond, not-and_self}
use Rattle.entries.specs.Keys.{heartbeat_key, identifier_key_of, tpdo1, cycle_key, event_key_of, tpdo2}
use Rattle.dictionary.specs.Accepted.{on}
use Rattle.dictionary.specs.Writes.{own_key, put}
use Rattle.dictionary.proofs.Own.{own_other}
use Rattle.sdo.specs.declared.reply.Effect.TheVariants.{Write}
use Rattle.parts.specs.declared.Core.{Core}
use Rattle.promises.specs.States.{communication, one, two}
use Rattle.promises.specs.Acts.{timers_after}
use Rattle.promises.specs.Effects.{Counted, beats, events, syncs, count, restarts}
use Rattle.promises.proofs.Counts.{own_key_law}

-- a PDO goes on by a write of its identifier only
switched : (t : Bool) (v held : ℕ) → (not (on held) && on (cond t v held)) ≡ (t && (not (on held) && on v))
switched true v held = refl
switched false v held = not-and_self (on held)

module _ (c : Core) (k v : ℕ) where
  -- by a write to the entry of key k
  abbrev switches : ℕ → ℕ → ℕ → Bool
  switches a identifier n = not (on identifier) && on (cond (eqb n a) v identifier)

  switched_by : (a identifier : ℕ) → eqb cycle_key a ≡ false → eqb (event_key_of tpdo1) a ≡ false
      → switches a identifier (own_key k) ≡ (eqb k a && (not (on identifier) && on v))
  switched_by a identifier m n =
      ap (λ t. not (on identifier) && on (cond t v identifier)) (own_other k a m n) ∙ switched (eqb k a) v identifier

  switched_1 : switches (identifier_key_of tpdo1) (communication c).pdo1.identifier (own_key k)
      ≡ (eqb k (identifier_key_of tpdo1) && (not (on (communication c).pdo1.identifier) && on v))
  switched_1 = switched_by (identifier_key_of tpdo1) (communication c).pdo1.identifier refl refl

  switched_2 : switches (identifier_key_of tpdo2) (communication c).pdo2.identifier (own_key k)
      ≡ (eqb k (identifier_key_of tpdo2) && (not (on (communication c).pdo2.identifier) && on v))
  switched_2 = switched_by (identifier_key_of tpdo2) (communication c).pdo2.identifier refl refl

  pub counts : (x : Counted) → count (timers_after c (Write (own_key k) v)) x ≡ cond (restarts c k v x) 0 (count c.timers x)
  unfolding put
  counts beats = ap (λ t. cond t 0 c.timers.heartbeat) (own_other k heartbeat_key refl refl)
  counts (events one) = ap₂ (λ s t. cond (s || t) 0 c.timers.pdo1.ticks) (own_key_law k) switched_1
  counts (events two) = ap₂ (λ s t. cond (s || t) 0 c.timers.pdo2.ticks) (own_other k (event_key_of tpdo2) refl refl) switched_2
  counts (syncs one) = ap (λ t. cond t 0 c.timers.pdo1.syncs) switched_1
  counts (syncs two) = ap (λ t. cond t 0 c.timers.pdo2.syncs) switched_2
