-- The head after a request is what `promises` says: for a reply without a write, and for each kind of write.
use Prim.Native.Nat.{ℕ, ◌<◌}
use native.Mathlib.Omega.{arith}
use lib.Dec.{eqb, leb}
use mathlib.Core.Path.{◌≡◌, refl, sym, ap, ap₂, subst, ◌∙◌}
use mathlib.Core.Bool.{Bool, true, false, not, ◌&&◌, ◌||◌, beq, and-false, and-not_self}
use mathlib.Core.List.{List, [], ◌∷◌}
use borrow.Author.Tests.{ne_eqb, eqb-true, leb-true}
use Rattle.cases.proofs.Cases.{by, both, neither, either, test, true_false}
use Rattle.entries.specs.declared.Communication.{Communication}
use Rattle.entries.specs.declared.Device.{Device}
use Rattle.entries.specs.declared.Pdo.{Pdo}
use Rattle.entries.specs.Settings.{factory}
use Rattle.entries.specs.Keys.{error_count_key, save_key, load_key, emergency_key, inhibit_key, heartbeat_key}
use Rattle.entries.specs.Keys.{tpdo1, tpdo2, identifier_key_of, type_key_of, event_key_of, operating_key, range_key, preset_key, step_key}
use Rattle.dictionary.specs.Accepted.{on}
use Rattle.dictionary.specs.Writes.{communication_after, profile_after, put}
use Rattle.sdo.specs.declared.reply.Effect.TheVariants.{Write}
use Rattle.sdo.specs.declared.reply.Served.{Served}
use Rattle.sdo.specs.Reply.{segmented}
use Rattle.names.specs.declared.Transfer.{Transfer}
use Rattle.names.specs.Transfer.{no_transfer}
use Rattle.waiting.specs.Line as line
use Rattle.waiting.specs.Line.{places, first}
use Rattle.waiting.specs.Places.{join_in, Holds}
use Rattle.waiting.specs.Calls.{joins_in, withdraws_in}
use Rattle.waiting.proofs.Unmoved.{none_taken}
use Rattle.waiting.proofs.Laws.{laws}
use Rattle.parts.specs.declared.Core.{Core}
use Rattle.parts.specs.declared.Head.{Head}
use Rattle.parts.specs.declared.Timers.{Timers}
use Rattle.parts.specs.Put.{with_line, with_timers, with_reply, with_errors, with_saved, with_profile, with_communication}
use Rattle.promises.specs.States.{is_live, communication, good}
use Rattle.promises.specs.Timers.{timers_written}
use Rattle.promises.specs.WaitingLine.{Kind, emergency, sdo_reply, heartbeat, tpdo, those, is_alerting, may_stay}
use Rattle.promises.specs.Acts.{serve, serving, request_moments, goes, comes, settled_to, act}
use Rattle.promises.specs.Valid.{Valid}
use Rattle.promises.proofs.Settled.{withdrawn, alerts_already}
use Rattle.server.specs.Effects.{replied_by, emptied_by, saved_by, scaled_by, configured_by, leaves_at, joins_at, quiet, rewritten_by}

-- a PDO that is as it was is not switched on
not_switched : (p : Pdo) → (not (on p.identifier) && on p.identifier) ≡ false
not_switched p = test (on p.identifier) (λ e. rw e) (λ e. rw e)

abbrev writing : List ℕ → ℕ → ℕ → Served
writing b k v = record { bytes = b; effect = Write k v; transfer = no_transfer }

module _ (h : Head) (v : Valid h) (live : is_live h.core ≡ true) (b : List ℕ) where
  abbrev c : Core
  c = h.core

  -- if nothing changes that decides who may wait, only the reply joins
  reply_joins_law : (d : Core) → goes c d ≡ [] → is_alerting d ≡ is_alerting c → is_live d ≡ true
      → join_in h.line line.sdo_reply ≡ joins_in (withdraws_in h.line (goes c d)) (comes request_moments d)
  reply_joins_law d none alert l = rw (none, alert, l) (sym (alerts_already h v (line.sdo_reply ∷ [])))

  pub replies : (t : Transfer)
      → let r = replied_by h.line b in with_line (with_reply h r.reply) r.line ≡ act false h (serve (segmented b t))
  unfolding act settled_to
  replies t =
      let d = serving c (segmented b t) in
      ap {B = Head} (λ l. record { core = d; transfer = h.transfer; line = l }) (reply_joins_law d (simp and-not_self) refl live)

  abbrev after : Device → Timers → Core
  after d t = record { device = d; nmt = c.nmt; announced = c.announced; timers = t; reply = b; fixed = c.fixed }

  abbrev settled : Core → Head
  settled d = record { core = d; transfer = h.transfer; line = joins_in (withdraws_in h.line (goes c d)) (comes request_moments d) }

  -- a write that alters neither the communication settings nor the timers
  alters_else : (k x : ℕ) (d : Device) → put c.device k x ≡ d → d.settings.communication ≡ communication c
      → d.reading ≡ c.device.reading → timers_written k (communication c) (communication c) c.timers ≡ c.timers
      → record { core = after d c.timers; transfer = h.transfer; line = join_in h.line line.sdo_reply } ≡ act false h (serve (writing b k x))
  unfolding act settled_to
  alters_else k x d w s r t =
      let reply = reply_joins_law (after d c.timers) (rw (s, r) (simp and-not_self)) (rw (s, r)) live in
      ap {B = Head} (λ l. record { core = after d c.timers; transfer = h.transfer; line = l }) reply
      ∙ ap (λ u. settled (after d u)) (sym t)
      ∙ ap (λ q. settled (after d (timers_written k (communication c) q c.timers))) (sym s)
      ∙ ap (λ e. settled (after e (timers_written k (communication c) e.settings.communication c.timers))) (sym w)

  -- no timer restarts
  stands : (k : ℕ) → eqb k 0x1017_00 ≡ false → eqb k 0x1800_05 ≡ false → eqb k 0x1801_05 ≡ false
      → timers_written k (communication c) (communication c) c.timers ≡ c.timers
  stands k beat event1 event2 =
      rw (beat, event1, event2, not_switched (communication c).pdo1, not_switched (communication c).pdo2)

  emptied : (x : ℕ) → put c.device error_count_key x ≡ (with_errors h 0).core.device
  unfolding put
  emptied x = refl

  pub empties : (k x : ℕ) → eqb k error_count_key ≡ true
      → let r = emptied_by h.line b in
      with_line (with_reply (with_errors h r.part) r.reply) r.line ≡ act false h (serve (writing b k x))
  empties k x e =
      rw (eqb-true k error_count_key e)
      (alters_else error_count_key x (with_errors h 0).core.device (emptied x) refl refl (stands error_count_key refl refl refl))

  saved : (x : ℕ) → put c.device save_key x ≡ (with_saved h c.device.settings).core.device
  unfolding put
  saved x = refl

  loaded : (x : ℕ) → put c.device load_key x ≡ (with_saved h (factory c.device.node)).core.device
  unfolding put
  loaded x = refl

  pub saves : (k x : ℕ) → (eqb k save_key || eqb k load_key) ≡ true
      → let r = saved_by c.device.node c.device.settings h.line b k in
      with_line (with_reply (with_saved h r.part) r.reply) r.line ≡ act false h (serve (writing b k x))
  saves k x e =
      either (eqb k save_key) (eqb k load_key) e
      (λ s.
      rw (eqb-true k save_key s)
      (alters_else save_key x (with_saved h c.device.settings).core.device (saved x) refl refl (stands save_key refl refl refl)))
      (λ l.
      let node = c.device.node in
      rw (eqb-true k load_key l)
      (alters_else load_key x (with_saved h (factory node)).core.device (loaded x) refl refl (stands load_key refl refl refl)))

  module _ (k x : ℕ) (counts : eqb k error_count_key ≡ false) (stores : (eqb k save_key || eqb k load_key) ≡ false) where
    module _ (high : leb operating_key k ≡ true) where
      other : (y : ℕ) → y < operating_key → eqb k y ≡ false
      other y low =
          let m = leb-true operating_key k high in
          ne_eqb k y (λ q. omega arith)

      abbrev scaled : Device
      scaled = (with_profile h (profile_after c.device.settings.profile c.device.reading.raw k x)).core.device

      scaled_so : put c.device k x ≡ scaled
      unfolding put
      scaled_so =
          let n = neither (eqb k save_key) (eqb k load_key) stores in
          rw (
            counts,
            n.0,
            n.1,
            other emergency_key (omega arith),
            other inhibit_key (omega arith),
            other heartbeat_key (omega arith),
            other (identifier_key_of tpdo1) (omega arith),
            other (type_key_of tpdo1) (omega arith),
            other (event_key_of tpdo1) (omega arith),
            other (identifier_key_of tpdo2) (omega arith),
            other (type_key_of tpdo2) (omega arith),
            other (event_key_of tpdo2) (omega arith),
          )

      pub scales :
          let r = scaled_by c.device.settings.profile c.device.reading.raw h.line b k x in
          with_line (with_reply (with_profile h r.part) r.reply) r.line ≡ act false h (serve (writing b k x))
      scales =
          let timers = stands k (other 0x1017_00 (omega arith)) (other 0x1800_05 (omega arith)) (other 0x1801_05 (omega arith)) in
          alters_else k x scaled scaled_so refl refl timers

    module _ (low : leb operating_key k ≡ false) where
      no_profile : (y : ℕ) → leb operating_key y ≡ true → eqb k y ≡ false
      no_profile y e = ne_eqb k y (λ q. true_false (sym e ∙ ap (leb operating_key) (sym q) ∙ low))

      abbrev settings : Communication
      settings = communication_after (communication c) k x

      abbrev configured : Device
      configured = (with_communication h settings).core.device

      configured_so : put c.device k x ≡ configured
      unfolding put
      configured_so =
          let n = neither (eqb k save_key) (eqb k load_key) stores in
          rw (
            counts,
            n.0,
            n.1,
            no_profile operating_key refl,
            no_profile range_key refl,
            no_profile preset_key refl,
            no_profile step_key refl,
          )

      abbrev d : Core
      d = after configured (timers_written k (communication c) settings c.timers)

      abbrev leaves : Kind → Bool
      leaves = leaves_at c.nmt settings c.timers.inhibit (good c) c.announced

      leaves_so : (j : Kind) → may_stay c j ≡ true → leaves j ≡ not (may_stay d j)
      leaves_so emergency m = refl
      leaves_so sdo_reply m = sym (ap not live)
      leaves_so heartbeat m = refl
      leaves_so (tpdo w) m = refl

      line_so : rewritten_by h.line c.nmt settings c.timers.inhibit (good c) c.announced ≡ (settled d).line
      line_so =
          by (λ (l : List ℕ). l ≡ (settled d).line) (quiet h.line (good c) c.announced)
          (λ q.
          let z = both (eqb (first h.line) 0) (beq (good c) c.announced) q in
          let none = (laws places).idle v.line (eqb-true (first h.line) 0 z.0) in
          let held : Holds places h.line [] = subst (Holds places h.line) none v.line in
          let calm : is_alerting d ≡ false = rw z.1 (and-false (is_live c && on settings.emergency && eqb c.timers.inhibit 0)) in
          let joins : comes request_moments d ≡ line.sdo_reply ∷ [] = rw (calm, live) in
          rw (none_taken held (goes c d), joins))
          (λ _.
          let joins : those (joins_at c.nmt settings c.timers.inhibit (good c) c.announced) ≡ comes request_moments d = rw live in
          ap₂ joins_in (withdrawn h v leaves d leaves_so) joins)

      pub configures :
          let r = configured_by c.nmt (communication c) c.timers (good c) c.announced h.line b k x in
          with_line (with_reply (with_timers (with_communication h r.communication) r.timers) r.reply) r.line
          ≡ act false h (serve (writing b k x))
      unfolding act settled_to
      configures =
          ap {B = Head} (λ l. record { core = d; transfer = h.transfer; line = l }) line_so
          ∙ ap (λ e. settled (after e (timers_written k (communication c) e.settings.communication c.timers))) (sym configured_so)
