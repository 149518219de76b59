-- The head with the parts that a SYNC changes is what `promises` says.
use Prim.Native.Nat.{ℕ}
use native.Mathlib.Omega.{arith}
use mathlib.Core.Path.{◌≡◌, refl, sym, ap, ap₂, ◌∙◌}
use mathlib.Core.Bool.{Bool, true, false, ◌&&◌, cond, and-false, and-not_self}
use mathlib.Core.List.{List, [], ◌∷◌}
use Rattle.cases.proofs.Cases.{by}
use Rattle.dictionary.specs.Accepted.{on}
use Rattle.waiting.specs.Line as line
use Rattle.waiting.specs.Calls.{joins_in, withdraws_in, if_due}
use Rattle.waiting.proofs.Unmoved.{keeps_place}
use Rattle.parts.specs.declared.Core.{Core}
use Rattle.parts.specs.declared.Head.{Head}
use Rattle.parts.specs.declared.Fixed.{Fixed}
use Rattle.parts.specs.Put.{with_line, with_timers, with_fixed}
use Rattle.promises.specs.States.{PdoNumber, one, two, pdo, clock, fixed_for, communication, good, operational, is_in}
use Rattle.promises.specs.Timers.{synchronous, completes, timers_synced}
use Rattle.promises.specs.WaitingLine.{tpdo, may_join, present, is_alerting}
use Rattle.promises.specs.Acts.{sync, synchronising, fixed_by_sync, sync_moments, goes, comes, settled_to, act}
use Rattle.promises.specs.Valid.{Valid}
use Rattle.tpdo.specs.Sync.{joins_at, fixed_anew, synced_by}

-- a test that the second condition makes anyway can be added to the first
gated : (s c o n g : Bool) → ((s && c) && ((o && n) && g)) ≡ (((n && s) && c) && ((o && n) && g))
gated s c o true g = refl
gated s c o false g = simp and-false

-- a kind that joins in front of others
in_front : (due : Bool) (k : ℕ) (ks l : List ℕ) → joins_in l (cond due (k ∷ ks) ks) ≡ joins_in (joins_in l (if_due due k)) ks
in_front true k ks l = refl
in_front false k ks l = refl

module _ (h : Head) (v : Valid h) where
  abbrev c : Core
  c = h.core

  abbrev after : Core
  after = synchronising c

  -- other counts of SYNCs withdraw none
  none_goes : goes c after ≡ []
  none_goes = simp and-not_self

  abbrev joins : PdoNumber → Bool
  joins w = joins_at c.nmt (good c) (pdo (communication c) w) (clock c.timers w)

  joins_so : (w : PdoNumber) → (sync_moments (communication c) c.timers (tpdo w) && may_join after (tpdo w)) ≡ joins w
  joins_so w =
      let p = pdo (communication c) w in
      gated (synchronous p) (completes p.transmission (clock c.timers w).syncs) (is_in operational c) (on p.identifier) (good c)

  abbrev pdos : List ℕ
  pdos = cond (joins one) (line.tpdo1 ∷ cond (joins two) (line.tpdo2 ∷ []) []) (cond (joins two) (line.tpdo2 ∷ []) [])

  -- an emergency that may wait waits already
  emergency_waits : joins_in h.line (cond (is_alerting c) (line.emergency ∷ pdos) pdos) ≡ joins_in h.line pdos
  emergency_waits =
      by (λ (ks : List ℕ). joins_in h.line ks ≡ joins_in h.line pdos) (is_alerting c)
      (λ e. ap (λ l. joins_in l pdos) (keeps_place v.line line.emergency (omega arith) (omega arith) (v.urgent e)))
      (λ _. refl)

  line_so : joins_in (withdraws_in h.line (goes c after)) (comes (sync_moments (communication c) c.timers) after)
      ≡ joins_in (joins_in h.line (if_due (joins one) line.tpdo1)) (if_due (joins two) line.tpdo2)
  line_so =
      rw (none_goes, joins_so one, joins_so two)
      (emergency_waits ∙ in_front (joins one) line.tpdo1 (if_due (joins two) line.tpdo2) h.line)

  -- the same test fixes the position
  fixed_so : (w : PdoNumber) → cond (joins w) (present c) (fixed_for c.fixed w) ≡ fixed_by_sync c w
  fixed_so w = ap (λ t. cond t (present c) (fixed_for c.fixed w)) (sym (joins_so w))

  fixes : fixed_anew (joins one) (joins two) c.device.settings.profile c.device.reading.raw c.fixed ≡ after.fixed
  fixes = ap₂ {C = Fixed} (λ x y. record { pdo1 = x; pdo2 = y }) (fixed_so one) (fixed_so two)

  pub syncs :
      let z = synced_by c.nmt c.device.settings c.timers c.device.reading c.fixed h.line in
      with_line (with_fixed (with_timers h z.timers) z.fixed) z.line ≡ act false h sync
  unfolding act settled_to
  syncs =
      let k = c.device.settings.communication in
      ap₂ {C = Head} (λ x l. with_line (with_fixed (with_timers h (timers_synced k c.timers)) x) l) fixes (sym line_so)
