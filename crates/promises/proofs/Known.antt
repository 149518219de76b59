-- Which frames a call sends, and how they are recognised.
use Prim.Native.Nat.{ℕ, ◌+◌, ◌/◌, ◌%◌, ◌≤◌}
use native.Mathlib.Omega.{arith}
use lib.Dec.{eqb, leb, ltb}
use mathlib.Core.Path.{sym, ◌≡◌, refl}
use mathlib.Core.Bool.{Bool, true, false, not, ◌||◌, cond, and-false}
use mathlib.Core.List.{List, [], ◌∷◌}
use mathlib.Core.Option.{Option, none, some}
use borrow.Author.Tests.{not-true, lt-leb, leb-true, eq-eqb, ne_eqb}
use Rattle.cases.proofs.Cases.{by, both}
use Rattle.can.specs.declared.Frame.{Frame}
use Rattle.can.specs.declared.Received.{Received}
use Rattle.cases.specs.Tests.{within}
use Rattle.dictionary.specs.Accepted.{on}
use Rattle.dictionary.specs.Valid.{ValidDevice}
use Rattle.parts.specs.declared.Core.{Core}
use Rattle.parts.specs.declared.Head.{Head}
use Rattle.parts.specs.declared.Sensor.TheVariants.{Missing, Raw}
use Rattle.position.specs.Profile.{highest_raw}
use Rattle.promises.specs.States.{is_initialising, node, communication, pdo, PdoNumber}
use Rattle.promises.specs.WaitingLine.{Kind, emergency, sdo_reply, heartbeat, tpdo, may_stay, boot_up_frame, frame_of}
use Rattle.promises.specs.Acts.{Act, nothing, enter, reset, boot, idle, send, take, lose, time, sync, serve, frame_by}
use Rattle.promises.specs.Calls.{Call, receive, tick, sample, slot, meant, is_frame, frame_in}
use Rattle.promises.specs.Valid.{waits, Valid}
use Rattle.promises.specs.Histories.{frames}
use Rattle.promises.specs.Gap.{alerts, shows_position, Known, is_boot_up}
use Rattle.promises.proofs.Causes.{Cause, cause}
use Rattle.promises.proofs.Answers.{AtSlot, booting, idling, sending, at_slot}
use Rattle.promises.proofs.Conditions.{beats, keeps}
use Rattle.promises.proofs.Types.{valid_pdo}

-- the frames that an act sends
abbrev pub framed : Option Frame → List Frame
framed none = []
framed (some f) = f ∷ []

unsent : (h : Head) (f : Received) (a : Act) → Cause h f a → [] ≡ framed (frame_by h.core a)
unsent h f nothing x = refl
unsent h f (enter g) x = refl
unsent h f (reset r) x = refl
unsent h f boot x = absurd x
unsent h f idle x = refl
unsent h f (send k) x = absurd x
unsent h f (take r) x = refl
unsent h f lose x = refl
unsent h f time x = refl
unsent h f sync x = refl
unsent h f (serve s) x = refl

answered : (x : Option Frame) → cond (is_frame x) (frame_in x ∷ []) [] ≡ framed x
answered none = refl
answered (some f) = refl

pub frames_by : (h : Head) → Valid h → (x : Call) → frames h x ≡ framed (frame_by h.core (meant h x))
frames_by h v (receive f) = unsent h f (meant h (receive f)) (cause h f v)
frames_by h v tick = by (λ a. [] ≡ framed (frame_by h.core a)) (is_initialising h.core) (λ _. refl) (λ _. refl)
frames_by h v (sample Missing) = refl
frames_by h v (sample (Raw r)) = by (λ a. [] ≡ framed (frame_by h.core a)) (ltb highest_raw r) (λ _. refl) (λ _. refl)
frames_by h v slot = answered (frame_by h.core (meant h slot))

-- What is sent waits, and so it may.
unsendable : (h : Head) → Valid h → (x : Call) (k : Kind) → frames h x ≡ [] → meant h x ≡ send k → ⊥
unsendable h v x k s e =
    let f : framed (frame_by h.core (meant h x)) ≡ frame_of h.core k ∷ [] = rw e in
    let z : ◌≡◌ {A = ℕ} 0 1 = cc (frames_by h v x) in
    omega arith

pub sent_waits : (h : Head) → Valid h → (x : Call) (k : Kind) → meant h x ≡ send k → waits h k ≡ true
sent_waits h v (receive f) k e = absurd (unsendable h v (receive f) k refl e)
sent_waits h v tick k e = absurd (unsendable h v tick k refl e)
sent_waits h v (sample s) k e = absurd (unsendable h v (sample s) k refl e)
sent_waits h v slot k e = by_act (meant h slot) (at_slot h v) e
  where
    by_act : (a : Act) → AtSlot h a → a ≡ send k → waits h k ≡ true
    by_act nothing x4 q = elim x4 [ ]
    by_act (enter _) x6 q = elim x6 [ ]
    by_act (reset _) x7 q = elim x7 [ ]
    by_act (take _) x8 q = elim x8 [ ]
    by_act lose x8 q = elim x8 [ ]
    by_act time x9 q = elim x9 [ ]
    by_act sync x10 q = elim x10 [ ]
    by_act (serve _) x12 q = elim x12 [ ]
    by_act boot (booting i) q = let z : ◌≡◌ {A = ℕ} 0 1 = cc in absurd (omega arith)
    by_act idle (idling i n) q = let z : ◌≡◌ {A = ℕ} 0 1 = cc in absurd (omega arith)
    by_act (send j) (sending _ i f w) q = let same : j ≡ k = cc in rw (← same) w

-- A PDO that is on has its identifier in 181h..57Fh.
module _ (c : Core) (v : ValidDevice c.device) where
  inside : (w : PdoNumber) → may_stay c (tpdo w) ≡ true → within 0x181 0x57F (pdo (communication c) w).identifier ≡ true
  inside w m =
      let i = (pdo (communication c) w).identifier in
      let accepted = both (eqb (i % 0x80000000 / 0x800) 0) (not (on i) || within 0x181 0x57F i) (valid_pdo c v w).identifier in
      rw (keeps c w m).is_on_law at accepted.1

-- Each frame is known by its identifier, and the boot-up frame by its byte.
module _ (n : ℕ) (f : Frame) where
  below : 0x80 + n ≡ f.identifier → f.identifier ≤ 0x180 → Known n f false true false
  below e l =
      record {
        boot_up = rw (ne_eqb f.identifier (0x700 + n) (λ q. omega arith));
        emergency = eq-eqb f.identifier (0x80 + n) (sym e);
        position = rw (lt-leb 0x181 f.identifier (omega arith));
      }

  above : {b : Bool} → n ≤ 127 → 0x580 ≤ f.identifier → is_boot_up n f ≡ b → Known n f b false false
  above few l e =
      record {
        boot_up = e;
        emergency = ne_eqb f.identifier (0x80 + n) (λ q. omega arith);
        position = rw (lt-leb f.identifier 0x57F (omega arith)) (and-false (leb 0x181 f.identifier));
      }

  between : 1 ≤ n → n ≤ 127 → within 0x181 0x57F f.identifier ≡ true → Known n f false false true
  between a b e =
      let bounds = both (leb 0x181 f.identifier) (leb f.identifier 0x57F) e in
      let low : 0x181 ≤ f.identifier = leb-true _ _ bounds.0 in
      let high : f.identifier ≤ 0x57F = leb-true _ _ bounds.1 in
      record {
        boot_up = rw (ne_eqb f.identifier (0x700 + n) (λ q. omega arith));
        emergency = ne_eqb f.identifier (0x80 + n) (λ q. omega arith);
        position = e;
      }

module _ (n : ℕ) (c : Core) (q : node c ≡ n) (v : ValidDevice c.device) where
  few : n ≤ 127
  few = omega (arith, v.node_high)

  pub known : (k : Kind) → may_stay c k ≡ true → Known n (frame_of c k) false (alerts k) (shows_position k)
  known emergency m = below n (frame_of c emergency) (omega arith) (omega (arith, few))
  known sdo_reply m = above n (frame_of c sdo_reply) few (omega arith) (rw (ne_eqb (0x580 + node c) (0x700 + n) (λ e. omega arith)))
  known heartbeat m = above n (frame_of c heartbeat) few (omega arith) (rw (not-true (is_initialising c) (beats c m).0) (simp and-false))
  known (tpdo w) m = between n (frame_of c (tpdo w)) (omega (arith, v.node_low)) few (inside c v w m)

  -- of these only a reply's is 580h+N
  pub only_reply : (k : Kind) → may_stay c k ≡ true → (frame_of c k).identifier ≡ 0x580 + node c → k ≡ sdo_reply
  only_reply emergency m e = absurd (omega arith)
  only_reply sdo_reply m e = refl
  only_reply heartbeat m e = absurd (omega arith)
  only_reply (tpdo w) m e =
      let i = (pdo (communication c) w).identifier in
      absurd (omega (arith, leb-true i 0x57F (both (leb 0x181 i) (leb i 0x57F) (inside c v w m)).1, e))

  pub known_boot_up : Known n (boot_up_frame c) true false false
  known_boot_up = above n (boot_up_frame c) few (omega arith) (rw (q, eq-eqb (0x700 + n) (0x700 + n) refl))
