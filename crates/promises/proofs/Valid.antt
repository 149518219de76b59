-- Power-up makes a valid head, and each call leaves one, because an act that fits does. One clause for each act, where acts differ.
use Prim.Native.Nat.{ℕ, ◌≤◌}
use native.Mathlib.Omega.{arith}
use mathlib.Core.Path.{◌≡◌, refl, sym, ◌∙◌}
use mathlib.Core.Bool.{Bool, true, false, not, ◌&&◌, ◌||◌, and-true}
use borrow.Author.Tests.{not-true}
use Rattle.cases.proofs.Cases.{both, either, true_false}
use Rattle.entries.specs.declared.Identity.{Identity}
use Rattle.entries.specs.Settings.{factory}
use Rattle.dictionary.specs.Valid.{ValidIdentity}
use Rattle.dictionary.proofs.Laws.{laws as dictionary-laws}
use Rattle.waiting.specs.Line.{places}
use Rattle.waiting.proofs.Laws.{laws}
use Rattle.names.specs.declared.Transfer.{Transfer}
use Rattle.parts.specs.declared.Head.{Head}
use Rattle.parts.specs.Put.{with_transfer}
use Rattle.promises.specs.States.{started}
use Rattle.promises.specs.WaitingLine.{Kind, emergency, is_alerting, may_stay, may_join}
use Rattle.promises.specs.Acts.{Act, nothing, enter, reset, boot, idle, send, take, lose, time}
use Rattle.promises.specs.Acts.{sync, serve, acted, moments_of, settled_to, act}
use Rattle.promises.specs.Calls.{Call, is_slot, meant, transfer_after, step}
use Rattle.promises.specs.Valid.{waits, Valid}
use Rattle.promises.proofs.Nothing.{act_nothing}
use Rattle.promises.proofs.Waits.{join_stay, sends, holds_act, waits_act}
use Rattle.promises.proofs.Fits.{Fits, fits}
use Rattle.promises.proofs.States.{named_act, fresh_act}
use Rattle.promises.proofs.Device.{device_act}
use Rattle.promises.proofs.Counts.{resting, timers_act}
use Rattle.promises.proofs.Fixed.{fixed_act, none_fixed}

-- A kind that waits afterwards may stay: m its moment, j whether it may join, y
-- and z whether it may stay before and after, w whether it waited.
stays_may : (m j y z s w : Bool) → (j ≡ true → z ≡ true) → (w ≡ true → y ≡ true)
    → ((m && j) || (not (y && not z) && (s && w))) ≡ true → z ≡ true
stays_may m j y true s w i o e = refl
stays_may m j y false s w i o e =
    either (m && j) (not (y && true) && (s && w)) e
    (λ t. i (both m j t).1)
    (λ t.
    let u = both (not (y && true)) (s && w) t in
    true_false (sym (o (both s w u.1).1) ∙ sym (and-true y) ∙ not-true (y && true) u.0))

module _ (b : Bool) (h : Head) where
  -- any call that does something is the emergency's moment
  joins_now : (a : Act) → Valid h → moments_of h.core a emergency ≡ true → is_alerting (acted h.core a) ≡ true
      → waits (act b h a) emergency ≡ true
  joins_now a v m e = rw (waits_act b h a v emergency, m, e)

  urgent_act : (a : Act) → Fits b h.core a → Valid h → is_alerting (acted h.core a) ≡ true → waits (act b h a) emergency ≡ true
  urgent_act nothing f v e = rw (f, act_nothing h) (v.urgent e)
  urgent_act (enter g) f v e = joins_now (enter g) v refl e
  urgent_act (reset r) f v e = joins_now (reset r) v refl e
  urgent_act boot f v e = joins_now boot v refl e
  urgent_act idle f v e = joins_now idle v refl e
  urgent_act (send k) f v e = joins_now (send k) v refl e
  urgent_act (take r) f v e = joins_now (take r) v refl e
  urgent_act lose f v e = joins_now lose v refl e
  urgent_act time f v e = joins_now time v refl e
  urgent_act sync f v e = joins_now sync v refl e
  urgent_act (serve s) f v e = joins_now (serve s) v refl e

  only_act : (a : Act) → Valid h → (k : Kind) → waits (act b h a) k ≡ true → may_stay (acted h.core a) k ≡ true
  only_act a v k e =
      let c = h.core in
      let later = acted c a in
      stays_may (moments_of c a k) (may_join later k) (may_stay c k) (may_stay later k) (not (sends b h k)) (waits h k)
      (join_stay later k) (v.only k) (sym (waits_act b h a v k) ∙ e)

  pub valid_act : (a : Act) → Fits b h.core a → Valid h → Valid (act b h a)
  unfolding act settled_to
  valid_act a f v =
      record {
        device = device_act b h.core a f v.device;
        named = named_act h.core a v.named;
        timers = timers_act h.core v.timers b a f v.device;
        fresh = fresh_act b h.core a f v.fresh;
        line = let held = holds_act b h a v in rw ((laws places).all held) held;
        fixed = fixed_act h.core v.device v.fixed a;
        only = only_act a v;
        urgent = urgent_act a f v;
      }

-- whatever transfer runs
pub handed : (h : Head) (t : Transfer) → Valid h → Valid (with_transfer h t)
handed h t v =
    record {
      device = v.device;
      named = v.named;
      timers = v.timers;
      fresh = v.fresh;
      line = v.line;
      fixed = v.fixed;
      only = v.only;
      urgent = v.urgent;
    }

pub valid_step : (h : Head) (c : Call) → Valid h → Valid (step h c)
valid_step h c v = handed (act (is_slot c) h (meant h c)) (transfer_after h c) (valid_act (is_slot c) h (meant h c) (fits h c) v)

pub valid_started : (n : ℕ) (i : Identity) → 1 ≤ n → n ≤ 127 → ValidIdentity i → Valid (started n i)
valid_started n i low high named =
    let settings = dictionary-laws.factory_valid n low high in
    record {
      device =
          record {
            node_low = low;
            node_high = high;
            identity = named;
            raw = omega arith;
            raw_missing = λ _. refl;
            errors = omega arith;
            settings = settings;
            saved = settings;
          };
      named = refl;
      timers = resting (factory n).communication;
      fresh = λ _. (refl, refl);
      line = (laws places).none;
      fixed = none_fixed;
      only = λ k e. true_false (sym e);
      urgent = λ e. true_false (sym e);
    }

-- the emergency waits exactly while its condition holds
pub emergency_exactly : (h : Head) → Valid h → waits h emergency ≡ is_alerting h.core
emergency_exactly h v = same (waits h emergency) (is_alerting h.core) (v.only emergency) v.urgent
  where
    same : (t u : Bool) → (t ≡ true → u ≡ true) → (u ≡ true → t ≡ true) → t ≡ u
    same true u f g = sym (f refl)
    same false true f g = g refl
    same false false f g = refl
