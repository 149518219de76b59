-- The head with the parts that a tick changes is what `promises` says, and stays valid: when some kind may join, and when none does.
use Prim.Native.Nat.{ℕ, ◌-◌}
use lib.Dec.{eqb}
use mathlib.Core.Path.{◌≡◌, refl, sym, ap, ap₂, subst, ◌∙◌}
use mathlib.Core.Bool.{Bool, true, false, not, ◌&&◌, ◌||◌, beq, and-false, and-not_self}
use mathlib.Core.List.{List, [], ◌∷◌}
use borrow.Author.Tests.{eqb-true}
use Rattle.std.specs.Prelude.{Option, None, Some}
use Rattle.cases.proofs.Cases.{by, test, true_false}
use Rattle.entries.specs.declared.Pdo.{Pdo}
use Rattle.waiting.specs.Calls.{joins_in, withdraws_in, flagged}
use Rattle.parts.specs.Put.{with_line, with_timers}
use Rattle.parts.specs.declared.Clock.{Clock}
use Rattle.parts.specs.declared.Core.{Core}
use Rattle.parts.specs.declared.Head.{Head}
use Rattle.parts.specs.declared.Timers.{Timers}
use Rattle.promises.specs.States.{operational, is_in, is_initialising, communication, good, one, two}
use Rattle.promises.specs.WaitingLine.{Kind, emergency, sdo_reply, heartbeat, tpdo, kinds, number, those_of, those, may_join}
use Rattle.promises.specs.Timers.{if_running, timers_ticked}
use Rattle.promises.specs.Acts.{time, acted, time_moments, goes, comes, settled_to, act}
use Rattle.promises.specs.Calls.{tick, timed, meant}
use Rattle.promises.specs.Valid.{Valid}
use Rattle.promises.specs.Promised.{Ticks}
use Rattle.promises.proofs.Nothing.{act_nothing, act_step}
use Rattle.promises.proofs.Valid.{valid_step}
use Rattle.counting.specs.Periods.{one_more}
use Rattle.tpdo.specs.Moments.{event_count}
use Rattle.settling.specs.Joined.{may_join_at, joined_by}
use Rattle.steps.specs.declared.tick.Ticked.{Ticked}
use Rattle.steps.specs.Tick.{event_clock, counted_on, ticked_of}

-- an inhibit time that runs down ends no emergency
runs_down : (live on differs : Bool) (n : ℕ)
    → ((live && on && eqb n 0 && differs) && not (live && on && eqb (n - 1) 0 && differs)) ≡ false
runs_down live on differs n =
    test (eqb n 0) (λ e. rw (eqb-true n 0 e) (and-not_self (live && on && true && differs))) (λ e. rw (e, and-false (live && on)))

-- a tick withdraws none
none_goes : (c : Core) → goes c (acted c time) ≡ []
none_goes c = simp (runs_down, and-not_self)

-- two tests that say the same of each kind pick the same
those_alike : (t u : Kind → Bool) → ((k : Kind) → t k ≡ u k) → those t ≡ those u
those_alike t u e = over kinds
  where
    over : (ks : List Kind) → those_of t ks ≡ those_of u ks
    over [] = refl
    over (k ∷ ks) = rw (e k, over ks)

-- a moment in Operational only, for a kind that joins in Operational only
gated : (o due on good : Bool) → ((o && due) && (o && on && good)) ≡ (due && (o && on && good))
gated true due on good = refl
gated false due on good = sym (and-false due)

clock_runs : (o : Bool) (p : Pdo) (k : Clock) → event_clock o p k ≡ if_running o p k
clock_runs true p k = refl
clock_runs false p k = refl

module _ (h : Head) (v : Valid h) where
  abbrev c : Core
  c = h.core

  abbrev counted : Ticked
  counted = counted_on (is_in operational c) (communication c) c.timers (good c) c.announced

  abbrev beats : Bool
  beats = (one_more (communication c).heartbeat c.timers.heartbeat).ends

  abbrev shows1 : Bool
  shows1 = (event_count (is_in operational c) (communication c).pdo1 c.timers.pdo1.ticks).ends

  abbrev shows2 : Bool
  shows2 = (event_count (is_in operational c) (communication c).pdo2 c.timers.pdo2.ticks).ends

  abbrev differs : Bool
  differs = not (beq (good c) c.announced)

  abbrev flags : List Bool
  flags = true ∷ false ∷ beats ∷ shows1 ∷ shows2 ∷ []

  -- the head with these timers, and with those that are due in the line
  abbrev settled : Timers → Option (List Bool) → Head
  settled t None = with_timers h t
  settled t (Some due) = with_line (with_timers h t) (joined_by h.line c.nmt (communication c) t.inhibit (good c) c.announced due)

  -- who joins, of those that the step says are due
  abbrev joining : Kind → Bool
  joining k =
      flagged flags (number k) && may_join_at c.nmt (communication c) counted.timers.inhibit (good c) c.announced k

  alike : (k : Kind) → joining k ≡ (time_moments (communication c) c.timers k && may_join (acted c time) k)
  alike emergency = refl
  alike sdo_reply = refl
  alike heartbeat = refl
  alike (tpdo one) = gated (is_in operational c) _ _ (good c)
  alike (tpdo two) = gated (is_in operational c) _ _ (good c)

  same_timers : counted.timers ≡ timers_ticked (is_in operational c) (communication c) c.timers
  same_timers =
      let o = is_in operational c in
      ap₂ {C = Timers} (λ x y. record { inhibit = c.timers.inhibit - 1; heartbeat = counted.timers.heartbeat; pdo1 = x; pdo2 = y })
      (clock_runs o (communication c).pdo1 c.timers.pdo1)
      (clock_runs o (communication c).pdo2 c.timers.pdo2)

  joins : is_initialising c ≡ false → settled counted.timers (Some flags) ≡ act false h (meant h tick)
  unfolding act settled_to
  joins runs =
      let m : timed c ≡ time = rw runs in
      let comes-same = those_alike joining (λ k. time_moments (communication c) c.timers k && may_join (acted c time) k) alike in
      ap₂ {C = Head} (λ t ks. with_line (with_timers h t) (joins_in h.line ks)) same_timers comes-same
      ∙ ap {B = Head}
      (λ out. with_line (with_timers h (timers_ticked (is_in operational c) (communication c) c.timers))
      (joins_in (withdraws_in h.line out) (comes (time_moments (communication c) c.timers) (acted c time))))
      (sym (none_goes c))
      ∙ ap (act false h) (sym m)

  -- no kind is due, and the reading is the one last announced: none joins
  none_joins : (a b d e : Bool)
      → (((a || b) || d) || e) ≡ false
      → (a ≡ false) × (b ≡ false) × (d ≡ false) × (e ≡ false)
  none_joins false false false false w = (refl, refl, refl, refl)
  none_joins true b d e w = true_false w
  none_joins false true d e w = true_false w
  none_joins false false true e w = true_false w
  none_joins false false false true w = true_false w

  stays : (((beats || shows1) || shows2) || differs) ≡ false → joins_in h.line (those joining) ≡ h.line
  stays w = ap (joins_in h.line) (those_alike joining (λ _. false) none)
    where
      n : (beats ≡ false) × (shows1 ≡ false) × (shows2 ≡ false) × (differs ≡ false)
      n = none_joins beats shows1 shows2 differs w

      none : (k : Kind) → joining k ≡ false
      none emergency = simp (n.3, and-false)
      none sdo_reply = refl
      none heartbeat = rw n.0
      none (tpdo one) = rw n.1
      none (tpdo two) = rw n.2

  -- a head that is what a tick makes of a valid one
  leaves : {r : Head} → r ≡ act false h (meant h tick) → Ticks h r
  leaves x = let e = x ∙ act_step h tick refl in (e, subst Valid (sym e) (valid_step h tick v))

  abbrev pub Ticking : Timers → Option (List Bool) → Type 0
  Ticking t due = Ticks h (settled t due)

  ticks :
      let z = ticked_of c.nmt (communication c) c.timers (good c) c.announced in
      Ticking z.timers z.due
  ticks =
      by (λ (y : Ticked). Ticking y.timers y.due) (is_initialising c)
      (λ stands. leaves (sym (act_nothing h) ∙ ap (act false h) (rw stands)))
      (λ runs. by (Ticking counted.timers) (((beats || shows1) || shows2) || differs)
      (λ _. leaves (joins runs))
      (λ w. leaves (ap (with_line (with_timers h counted.timers)) (sym (stays w)) ∙ joins runs)))

  pub ticks_so : {z : Ticked} → z ≡ ticked_of c.nmt (communication c) c.timers (good c) c.announced → Ticking z.timers z.due
  ticks_so e = subst (λ (y : Ticked). Ticking y.timers y.due) (sym e) ticks
