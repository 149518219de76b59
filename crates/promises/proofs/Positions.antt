-- Proves `Positioned` of specs/Readings.antt: the position is 01's formula, after an
-- accepted preset it is the preset, and a position frame of types 254 and 255 carries what 6004h reads.
use Prim.Native.Nat.{ℕ, ◌<◌}
use native.Mathlib.Omega.{arith}
use lib.Dec.{eqb}
use mathlib.Core.Path.{◌≡◌, refl, sym, ap, ◌∙◌}
use mathlib.Core.Bool.{Bool, true, false, not, ◌||◌, cond}
use mathlib.Core.List.{List, [], ◌∷◌}
use mathlib.Core.Option.{Option, some}
use Rattle.cases.proofs.Cases.{by, test, neither, true_false}
use Rattle.can.specs.declared.Received.{Received}
use Rattle.can.proofs.Number.{numbers}
use Rattle.position.specs.declared.Profile.{Profile}
use Rattle.position.specs.Position.{position}
use Rattle.position.proofs.Laws.{laws as position-laws}
use Rattle.entries.specs.declared.Device.{Device}
use Rattle.entries.specs.Keys.{preset_key, operating_key, range_key, step_key}
use Rattle.dictionary.specs.Shown.{Shown}
use Rattle.std.specs.Prelude.{None as Blank, Some as Number}
use Rattle.cases.specs.Tests.{within}
use Rattle.waiting.specs.Line.{first}
use Rattle.waiting.specs.Places.{waiting}
use Rattle.dictionary.specs.Writes.{rescales, written, put}
use Rattle.dictionary.specs.Effects.{effects, anew}
use Rattle.dictionary.proofs.Own.{own_profile}
use Rattle.sdo.specs.Reply.{carried_out}
use Rattle.sdo.specs.Service.{Due, none, value, confirmation, abort, upload, answer}
use Rattle.parts.specs.declared.Core.{Core}
use Rattle.parts.specs.declared.Head.{Head}
use Rattle.parts.specs.declared.Sensor.TheVariants.{Missing, Raw}
use Rattle.promises.specs.States.{operational, is_in, node, communication, good, pdo, fixed_for, of_node, of_communication}
use Rattle.promises.specs.Timers.{synchronous}
use Rattle.promises.specs.WaitingLine.{Kind, emergency, sdo_reply, heartbeat, tpdo, number, present, carried, frame_of}
use Rattle.promises.specs.Acts.{Act, boot, idle, send, frame_by, enter, lose, nothing, reset, serve, sync, take, time}
use Rattle.promises.specs.Calls.{Call, receive, slot, meant, step, is_frame, frame_in, slot_answer}
use Rattle.promises.specs.Valid.{waits, Valid}
use Rattle.promises.specs.Meant.{due_to, Writes}
use Rattle.promises.specs.Histories.{after, Reachable}
use Rattle.promises.specs.Gap.{is_position, shows_position}
use Rattle.promises.specs.Readings.{reads_in, profile_of, repositions, Moves, Unmoved, samples, writes, resets, Carries, Positioned}
use Rattle.promises.proofs.Valid.{valid_step}
use Rattle.promises.proofs.Causes.{writes as writes-so}
use Rattle.promises.proofs.Answers.{AtSlot, booting, idling, sending, at_slot}
use Rattle.promises.proofs.Conditions.{keeps}
use Rattle.promises.proofs.Types.{on_events}
use Rattle.promises.proofs.Fixed.{present_below}
use Rattle.promises.proofs.Altered.{Altered, heard, timed, sent, refused, took, lost, restarted, served as is-served, altered}
use Rattle.promises.proofs.Histories.{valid_reachable}
use Rattle.promises.proofs.Known.{known, known_boot_up}
use Rattle.promises.proofs.Readings.{shown_as, position_shown}
use Rattle.promises.proofs.Effects.{served_rightly}

-- what 6004h reads of a device
abbrev showing : Device → Option Shown
showing d = some (shown_as d.settings.profile d.reading)

-- while it is good
shows_good : (d : Device) → d.reading.good ≡ true → showing d ≡ some (Number (position d.settings.profile d.reading.raw))
shows_good d e = ap (λ (g : Bool). some (cond (not g) Blank (Number (position d.settings.profile d.reading.raw)))) e

-- no other write, but those that rescale, alters the profile
profile_kept : (d : Device) (k v : ℕ) → repositions k ≡ false → (written d k v).settings.profile ≡ d.settings.profile
unfolding put
profile_kept d k v e =
    let a = neither (rescales k) (eqb k preset_key) e in
    let b = neither (eqb k operating_key || eqb k range_key) (eqb k step_key) a.0 in
    let c = neither (eqb k operating_key) (eqb k range_key) b.0 in
    own_profile d.settings.profile d.reading.raw k v ∙ rw (c.0, c.1, b.1, a.1)

showing_kept : (d : Device) (k v : ℕ) → repositions k ≡ false → showing (written d k v) ≡ showing d
unfolding put
showing_kept d k v e =
    ap (λ (p : Profile). some (shown_as p d.reading)) (profile_kept d k v e)

showing_due : (d : Device) (f : List ℕ) (y : Due) → ((k v : ℕ) → y ≡ confirmation k v → repositions k ≡ true → ⊥)
    → showing (carried_out d (answer f y).effect) ≡ showing d
showing_due d f none n = refl
showing_due d f (value w x) n = refl
showing_due d f (confirmation k v) n = test (repositions k) (λ m. absurd (n k v refl m)) (showing_kept d k v)
showing_due d f (abort c) n = refl
showing_due d f (upload b t) n = refl

module _ (h : Head) (v : Valid h) where
  -- a write that is accepted is carried out
  pub written_by : {f : Received} {k x : ℕ} → Writes h f k x → (step h (receive f)).core.device ≡ written h.core.device k x
  written_by {f} w = ap (λ (c : Core). c.device) (writes-so h f v w)

  kept : (c : Call) (d : Device) → (Moves h c → ⊥) → Altered h c d → showing d ≡ showing h.core.device
  kept _ _ n (heard f) = refl
  kept _ _ n timed = refl
  kept _ _ n sent = refl
  kept _ _ n (refused r b) = refl
  kept _ _ n (took r b) = absurd (n (samples (Raw r) b))
  kept _ _ n lost = absurd (n (samples Missing refl))
  kept _ _ n (restarted f of_node x) = absurd (n (resets f x))
  kept _ _ n (restarted f of_communication x) = refl
  kept _ _ n (is-served f x) =
      showing_due h.core.device f.bytes (due_to h f) (λ k u e m. n (writes f k u (record { requests = x; accepted = e }) m))

  stays_by : (c : Call) → (Moves h c → ⊥) → reads_in (step h c) 0x6004 0 ≡ reads_in h 0x6004 0
  stays_by c n =
      position_shown (step h c).core.device _ ∙ kept c (step h c).core.device n (altered h v c)
      ∙ sym (position_shown h.core.device _)

  -- a position frame is that of a PDO
  carries_as : (k : Kind) → waits h k ≡ true → first (waiting h.line) ≡ number k → shows_position k ≡ true → Carries h (frame_of h.core k)
  carries_as emergency w i e = true_false (sym e)
  carries_as sdo_reply w i e = true_false (sym e)
  carries_as heartbeat w i e = true_false (sym e)
  carries_as (tpdo which) w i e =
      let c = h.core in
      let p = pdo (communication c) which in
      let shown = carried p (present c) (fixed_for c.fixed which) in
      let below : shown < 1048576 =
      by (λ n. n < 1048576) (synchronous p) (λ _. v.fixed which) (λ _. present_below c v.device) in
      record {
        which = which;
        is_first = i;
        identifier = refl;
        length = refl;
        position = shown;
        reads_it = λ t.
            let at_slot = on_events p t in
            let is_good_law : good c ≡ true = rw at_slot at (keeps c which (v.only (tpdo which) w)).lasts in
            position_shown c.device _ ∙ shows_good c.device is_good_law ∙ rw at_slot;
        its_bytes = refl;
        whole = numbers.back 4 shown (omega (arith, below));
      }

  pub carries : is_frame (slot_answer h) ≡ true → within 0x181 0x57F (frame_in (slot_answer h)).identifier ≡ true → Carries h (frame_in (slot_answer h))
  carries = by_act (meant h slot) (at_slot h v)
    where
      by_act : (a : Act) → AtSlot h a → let x = frame_by h.core a in is_frame x ≡ true → is_position (frame_in x) ≡ true
          → Carries h (frame_in x)
      by_act nothing x3 f b = elim x3 [ ]
      by_act (enter _) x5 f b = elim x5 [ ]
      by_act (reset _) x6 f b = elim x6 [ ]
      by_act (take _) x7 f b = elim x7 [ ]
      by_act lose x7 f b = elim x7 [ ]
      by_act time x8 f b = elim x8 [ ]
      by_act sync x9 f b = elim x9 [ ]
      by_act (serve _) x11 f b = elim x11 [ ]
      by_act boot (booting i) f b = true_false (sym b ∙ (known_boot_up (node h.core) h.core refl v.device).position)
      by_act idle (idling i e) f b = true_false (sym f)
      by_act (send k) (sending _ i e w) f b =
          carries_as k w e (sym (known (node h.core) h.core refl v.device k (v.only k w)).position ∙ b)

-- an accepted preset
presets : (h : Head) → Reachable h → (f : Received) (x : ℕ) → Writes h f preset_key x
    → reads_in (step h (receive f)) 0x6004 0 ≡ some (Number x)
presets h r f x w =
    let d = h.core.device in
    let o = is_in operational h.core in
    ((served_rightly h r f w.requests).accepted preset_key x w.accepted).entries 0x6004 0
    ∙ ap (anew (effects d o preset_key x) 0x6004_00) (position_shown d o)

stays : (cs : List Call) (h : Head) → Valid h → Unmoved h cs → reads_in (after h cs) 0x6004 0 ≡ reads_in h 0x6004 0
stays [] h v u = refl
stays (c ∷ cs) h v u = stays cs (step h c) (valid_step h c v) u.1 ∙ stays_by h v c u.0

pub positioned : (h : Head) → Reachable h → Positioned h
positioned h r =
    let v = valid_reachable h r in
    let p = v.device.settings.profile in
    record {
      formula = λ n. position-laws.positions (profile_of h) n p;
      mirrors = λ n. position-laws.mirrors (profile_of h) n p;
      presets = presets h r;
      stays = λ cs. stays cs h v;
      carries = carries h v;
    }
