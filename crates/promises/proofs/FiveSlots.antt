-- Proves `FiveSlots` of specs/FiveSlots.antt.
use Prim.Native.Nat.{ℕ, suc, ◌≤◌}
use native.Mathlib.Omega.{arith}
use lib.Dec.{eqb}
use mathlib.Core.Path.{◌≡◌, refl, sym, ap, ◌∙◌}
use mathlib.Core.Logic.{◌↔◌, ⊎_elim}
use mathlib.Core.Bool.{true, false, ◌||◌}
use mathlib.Core.List.{List, [], ◌∷◌, ◌++◌}
use borrow.Author.Tests.{eqb-true, eqb-false, not-true}
use Rattle.cases.proofs.Cases.{test, true_false}
use Rattle.waiting.specs.Line.{places, has}
use Rattle.waiting.specs.Places.{waiting}
use Rattle.waiting.specs.Trace as trace
use Rattle.waiting.proofs.Lines.{lines}
use Rattle.waiting.proofs.Slots.{demand3}
use Rattle.parts.specs.declared.Head.{Head}
use Rattle.promises.specs.States.{is_initialising, node, communication, good, pdo}
use Rattle.promises.specs.WaitingLine.{Kind, emergency, sdo_reply, heartbeat, tpdo, number, may_stay}
use Rattle.promises.specs.Acts.{Act, boot, idle, send, frame_by, enter, lose, nothing, reset, serve, sync, take, time}
use Rattle.promises.specs.Calls.{Call, slot, meant, step, is_frame, frame_in, slot_answer}
use Rattle.promises.specs.Valid.{waits, Valid}
use Rattle.promises.specs.Histories.{after, slots}
use Rattle.promises.specs.FiveSlots.{LeavesBy, Answered, boot_up, kind, none, May, FiveSlots}
use Rattle.promises.proofs.KindNumbers.{same_kind, positive}
use Rattle.promises.proofs.Valid.{valid_step}
use Rattle.promises.proofs.Slots.{none_of, none_waits, none_exactly as none_left}
use Rattle.promises.proofs.Answers.{AtSlot, booting, idling, sending, at_slot}
use Rattle.promises.proofs.Conditions.{alerts, beats, keeps}
use Rattle.promises.proofs.Types.{on_events}
use Rattle.promises.proofs.Histories.{valid_after, valid_reachable}
use Rattle.promises.proofs.Turns.{machine, sound, runs_after, slots_slots}
use Rattle.promises.proofs.Departures.{a_slot, sends_it, sent_gone, withdrawn_gone, only_so}
use Rattle.promises.proofs.Lined.{lined}
use Rattle.promises.proofs.BootUp.{boots}

-- the first call after which k no longer waits
gone_first : (before : List Call) (call : Call) (rest : List Call) (h : Head) (k : Kind) → Valid h → waits h k ≡ true
    → waits (step (after h before) call) k ≡ false
    → LeavesBy (suc (slots before)) h (before ++ call ∷ rest) k
gone_first [] call rest h k v w n =
    record { before = []; call = call; rest = rest; split = refl; early = omega arith; until = w; how = only_so h v call k w n; gone = n }
gone_first (c ∷ before) call rest h k v w n =
    test (waits (step h c) k)
    (λ y.
    let l = gone_first before call rest (step h c) k (valid_step h c v) y n in
    record {
      before = c ∷ l.before;
      call = l.call;
      rest = l.rest;
      split = ap {B = List Call} (λ cs. c ∷ cs) l.split;
      early = omega (arith, l.early);
      until = (w, l.until);
      how = l.how;
      gone = l.gone;
    })
    (λ z. record {
      before = [];
      call = c;
      rest = before ++ call ∷ rest;
      split = refl;
      early = omega arith;
      until = w;
      how = only_so h v c k w z;
      gone = z;
    })

sooner : {a b : ℕ} {h : Head} {k : Kind} {xs cs : List Call} → LeavesBy a h xs k → cs ≡ xs → a ≤ b → LeavesBy b h cs k
sooner l e le =
    record {
      before = l.before;
      call = l.call;
      rest = l.rest;
      split = e ∙ l.split;
      early = omega (arith, l.early, le);
      until = l.until;
      how = l.how;
      gone = l.gone;
    }

pub by_the_fifth : (h : Head) (cs : List Call) (k : Kind) → Valid h → waits h k ≡ true → places ≤ slots cs → LeavesBy places h cs k
by_the_fifth h cs k v w enough =
    let l : trace.LeavesBy machine places (number k) h cs = demand3 machine sound h (number k) cs v w (rw (slots_slots cs) enough) in
    let there : trace.runs machine h l.before ≡ after h l.before = runs_after l.before h in
    let g = trace.runs machine h l.before in
    let u : Valid g = rw there (valid_after h l.before v) in
    let n : waits (step g l.call) k ≡ false =
    ⊎_elim (λ x. sent_gone g u l.call k (sends_it g u l.call k (a_slot l.call x.0) x.1)) (λ x. x.1) l.how in
    sooner (gone_first l.before l.call l.rest h k v w (rw (← there) n)) l.split
    (omega (arith, l.early, slots_slots l.before))

answers : (h : Head) → Valid h → Answered h (is_frame (slot_answer h)) (frame_in (slot_answer h))
answers h v = by_act (meant h slot) (at_slot h v)
  where
    by_act : (a : Act) → AtSlot h a → Answered h (is_frame (frame_by h.core a)) (frame_in (frame_by h.core a))
    by_act nothing x' = elim x' [ ]
    by_act (enter _) x3 = elim x3 [ ]
    by_act (reset _) x4 = elim x4 [ ]
    by_act (take _) x5 = elim x5 [ ]
    by_act lose x5 = elim x5 [ ]
    by_act time x6 = elim x6 [ ]
    by_act sync x7 = elim x7 [ ]
    by_act (serve _) x9 = elim x9 [ ]
    by_act boot (booting i) = boot_up i (none_waits h v i)
    by_act idle (idling i e) = none i e
    by_act (send k) (sending j i e w) = kind k i e

none_exactly : (h : Head) → Valid h → (is_frame (slot_answer h) ≡ false) ↔ ((is_initialising h.core ≡ false) × ((k : Kind) → waits h k ≡ false))
none_exactly h v =
    let x = none_left h v in (
      λ e. ((x.0 e).0, λ k. ap (has (number k)) (x.0 e).1),
      λ u. x.1 (u.0, none_of (waiting h.line) v.line.kinds (λ k w. true_false (sym w ∙ u.1 k))),
    )

may : (h : Head) (k : Kind) → may_stay h.core k ≡ true → May h k
may h emergency m = let s = alerts h.core m in (s.lives, s.is_on_law, eqb-true _ 0 s.rested, not-true _ s.differs)
may h sdo_reply m = m
may h heartbeat m =
    let b = beats h.core m in
    let period = (communication h.core).heartbeat in
    (not-true (is_initialising h.core) b.0, omega (arith, eqb-false period 0 (not-true (eqb period 0) b.1)))
may h (tpdo w) m =
    let s = keeps h.core w m in
    (s.operates, s.is_on_law, λ t. ap (λ b. b || good h.core) (sym (on_events (pdo (communication h.core) w) t)) ∙ s.lasts)

pub five_slots : FiveSlots
five_slots =
    record {
      stands = λ h k. lines.stands (number k) (waiting h.line);
      by_the_fifth = λ h r cs k w enough. by_the_fifth h cs k (valid_reachable h r) w enough;
      only_so = λ h r. only_so h (valid_reachable h r);
      withdrawn = λ h r. withdrawn_gone h (valid_reachable h r);
      sent = λ h r. sent_gone h (valid_reachable h r);
      once = λ h r. (valid_reachable h r).line.kinds;
      numbered = same_kind;
      not_0 = positive;
      only_while = λ h r k w. may h k ((valid_reachable h r).only k w);
      lines_up = λ h r c. lined h (valid_reachable h r) c;
      boots = λ h r i cs z. boots (node h.core) cs h (valid_reachable h r) i refl z;
      answers = λ h r. answers h (valid_reachable h r);
      none_exactly = λ h r. none_exactly h (valid_reachable h r);
    }
