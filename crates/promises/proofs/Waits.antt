-- Who waits after an act, in closed form: the kinds that joined, and those that waited, were not sent and kept their condition.
use Prim.Native.Nat.{ℕ}
use native.Mathlib.Omega.{arith}
use mathlib.Core.Path.{◌≡◌, sym, ap, ◌∙◌}
use mathlib.Core.Bool.{Bool, true, false, not, ◌&&◌, ◌||◌, and-false, or-true, or-false}
use mathlib.Core.List.{List}
use lib.Dec.{eqb}
use Rattle.cases.proofs.Cases.{test, both, true_false}
use Rattle.waiting.specs.Line as line
use Rattle.waiting.specs.Line.{places, has, first}
use Rattle.waiting.specs.Places.{waiting, Holds}
use Rattle.waiting.specs.Calls.{after}
use Rattle.waiting.proofs.Laws.{laws}
use Rattle.parts.specs.declared.Core.{Core}
use Rattle.parts.specs.declared.Head.{Head}
use Rattle.promises.specs.States.{communication, pdo}
use Rattle.promises.specs.Timers.{synchronous}
use Rattle.promises.specs.WaitingLine.{Kind, emergency, sdo_reply, heartbeat, tpdo, number, may_stay, may_join}
use Rattle.promises.specs.Acts.{Act, acted, moments_of, goes, comes, settled_to, act}
use Rattle.promises.specs.Valid.{waits, Valid}
use Rattle.promises.proofs.KindNumbers.{has_those, named_those}
use Rattle.promises.proofs.Conditions.{shows}

-- A kind that may join may stay,
pub join_stay : (c : Core) (k : Kind) → may_join c k ≡ true → may_stay c k ≡ true
join_stay c emergency y = y
join_stay c sdo_reply y = y
join_stay c heartbeat y = y
join_stay c (tpdo w) y =
    let s = shows c w y in rw (s.operates, s.is_on_law, s.is_good_law) (or-true (synchronous (pdo (communication c) w)))

-- and a kind that may not stay may not join.
pub stay_join : (c : Core) (k : Kind) → may_stay c k ≡ false → may_join c k ≡ false
stay_join c k n = test (may_join c k) (λ y. true_false (sym (join_stay c k y) ∙ n)) (λ y. y)

-- whether a reply waits, in the line and in its places
pub reply_waiting : (h : Head) → Valid h → has line.sdo_reply h.line ≡ waits h sdo_reply
reply_waiting h v = (laws places).waits line.sdo_reply (omega arith) v.line

-- whether a slot sends that kind
abbrev pub sends : Bool → Head → Kind → Bool
sends slot h k = slot && eqb (first (waiting h.line)) (number k)

-- A kind that did not wait and now does had its moment, and may join: m and j; s whether it stays and is not sent, w whether it waited.
had_moment : (m j t s w : Bool) → w ≡ false → ((m && j) || (t && (s && w))) ≡ true → (m ≡ true) × (j ≡ true)
had_moment m j t s true n e = true_false n
had_moment m j t s false n e = both m j (sym (or-false (m && j)) ∙ ap (λ u. m && j || u) (sym none) ∙ e)
  where
    none : (t && (s && false)) ≡ false
    none = rw (and-false s) (and-false t)

module _ (slot : Bool) (h : Head) (a : Act) (v : Valid h) where
  abbrev c : Core
  c = h.core

  abbrev later : Core
  later = acted c a

  abbrev out : List ℕ
  out = goes c later

  abbrev into : List ℕ
  into = comes (moments_of c a) later

  pub holds_act : Holds places (act slot h a).line (after slot out into (waiting h.line))
  unfolding act settled_to
  holds_act = (laws places).holds slot out into (named_those (λ k. moments_of c a k && may_join later k)) v.line

  pub waits_act : (k : Kind)
      → waits (act slot h a) k
      ≡ ((moments_of c a k && may_join later k) || (not (may_stay c k && not (may_stay later k)) && (not (sends slot h k) && waits h k)))
  waits_act k =
      rw (
        (laws places).all holds_act,
        (laws places).waits_after slot out into (waiting h.line) (number k) v.line.kinds,
        has_those (λ j. moments_of c a j && may_join later j) k,
        has_those (λ j. may_stay c j && not (may_stay later j)) k,
      )

  pub waits_new : (k : Kind) → waits h k ≡ false → waits (act slot h a) k ≡ true → (moments_of c a k ≡ true) × (may_join later k ≡ true)
  waits_new k n y =
      had_moment (moments_of c a k) (may_join later k) (not (may_stay c k && not (may_stay later k))) (not (sends slot h k)) (waits h k)
      n (sym (waits_act k) ∙ y)
