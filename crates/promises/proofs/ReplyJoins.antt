-- The line after a service request: kinds whose condition the write ended
-- are gone, the others keep their order, and the reply stands at the end.
use Prim.Native.Nat.{ℕ}
use lib.Dec.{eqb}
use mathlib.Core.Path.{◌≡◌, refl, sym, ap, ap₂, ◌∙◌}
use mathlib.Core.Bool.{Bool, true, false, not, ◌&&◌, ◌||◌, beq, cond, and-true, and-false, and-not_self, or-true}
use mathlib.Core.List.{List, [], ◌∷◌, ◌++◌, append_assoc}
use borrow.Author.Tests.{eqb-true, eqb-false, eq-eqb, ne_eqb}
use Rattle.cases.proofs.Cases.{both, test}
use Rattle.waiting.specs.Line as line
use Rattle.waiting.specs.Line.{places, has, Kinds, withdraw}
use Rattle.waiting.specs.Calls.{withdraws, joins}
use Rattle.waiting.specs.Places.{waiting}
use Rattle.waiting.proofs.Laws.{laws}
use Rattle.waiting.proofs.Order.{join_is}
use Rattle.waiting.proofs.After.{has_append, has_withdraws}
use Rattle.entries.specs.Keys.{emergency_key}
use Rattle.dictionary.specs.Accepted.{on, barred}
use Rattle.dictionary.specs.Writes.{own_key, put}
use Rattle.sdo.specs.declared.reply.Served.{Served}
use Rattle.sdo.specs.Reply.{confirmed, segmented}
use Rattle.parts.specs.declared.Nmt.{Nmt}
use Rattle.names.specs.declared.Transfer.{Transfer}
use Rattle.parts.specs.declared.Core.{Core}
use Rattle.parts.specs.declared.Head.{Head}
use Rattle.promises.specs.States.{live, is_live, communication, good}
use Rattle.promises.specs.WaitingLine.{Kind, emergency, sdo_reply, number, those, may_alert, is_alerting, may_stay}
use Rattle.promises.specs.Acts.{serve, serving, request_moments, goes, comes, act}
use Rattle.promises.specs.Valid.{waits, Valid}
use Rattle.promises.specs.Effects.{takes, brings}
use Rattle.promises.proofs.KindNumbers.{kind_at, number_is, has_those}
use Rattle.promises.proofs.Waits.{holds_act}
use Rattle.promises.proofs.Valid.{emergency_exactly}
use Rattle.promises.proofs.Conditions.{alert_written, ends}

pub none_withdrawn : (ks : List ℕ) → withdraws [] ks ≡ []
none_withdrawn [] = refl
none_withdrawn (k ∷ ks) = none_withdrawn ks

-- the first goes if it is among those withdrawn
first_withdrawn : (x : ℕ) (xs ks : List ℕ) → withdraws (x ∷ xs) ks ≡ cond (has x ks) (withdraws xs ks) (x ∷ withdraws xs ks)
first_withdrawn x xs [] = refl
first_withdrawn x xs (k ∷ ks) =
    test (eqb k x)
    (λ e. rw (eqb-true k x e, eq-eqb x x refl))
    (λ e. rw (ne_eqb x k (λ q. eqb-false k x e (sym q)), e) (first_withdrawn x (withdraw xs k) ks))

-- Two lists withdraw the same from a line if they agree on the kinds that wait in it.
withdrawn_alike : (ws ks ls : List ℕ) → Kinds places ws → ((k : Kind) → has (number k) ws ≡ true → has (number k) ks ≡ has (number k) ls)
    → withdraws ws ks ≡ withdraws ws ls
withdrawn_alike [] ks ls h a = none_withdrawn ks ∙ sym (none_withdrawn ls)
withdrawn_alike (x ∷ xs) ks ls h a =
    let its-number = number_is x h.0 h.1 in
    let first-too : has x ks ≡ has x ls = rw its-number at (a (kind_at x) (rw (its-number, eq-eqb x x refl))) in
    let others = withdrawn_alike xs ks ls h.3 (λ k w. a k (ap (λ t. eqb x (number k) || t) w ∙ or-true (eqb x (number k)))) in
    first_withdrawn x xs ks
    ∙ ap (λ t. cond t (withdraws xs ks) (x ∷ withdraws xs ks)) first-too
    ∙ ap (λ r. cond (has x ls) r (x ∷ r)) others
    ∙ sym (first_withdrawn x xs ls)

-- The reply, and before it the emergency if it joins: those that did not wait before stand at the end.
abbrev joining : Bool → List ℕ
joining e = cond e (line.emergency ∷ line.sdo_reply ∷ []) (line.sdo_reply ∷ [])

reply_joins_law : (e : Bool) (ws : List ℕ) → has line.sdo_reply ws ≡ false
    → joins ws (joining e) ≡ ws ++ joining (e && not (has line.emergency ws))
reply_joins_law false ws n = rw (join_is ws line.sdo_reply, n)
reply_joins_law true ws n =
    test (has line.emergency ws)
    (λ w. rw (join_is ws line.emergency, w, join_is ws line.sdo_reply, n))
    (λ w. rw (
      join_is ws line.emergency,
      w,
      join_is (ws ++ line.emergency ∷ []) line.sdo_reply,
      has_append line.sdo_reply ws (line.emergency ∷ []),
      n,
    )
    (append_assoc ws (line.emergency ∷ []) (line.sdo_reply ∷ [])))

last_in : {all : List ℕ} (ws : List ℕ) (e : Bool) → all ≡ ws ++ joining e → (ahead : List ℕ) × (all ≡ ahead ++ line.sdo_reply ∷ [])
last_in ws true q = (ws ++ line.emergency ∷ [], q ∙ sym (append_assoc ws (line.emergency ∷ []) (line.sdo_reply ∷ [])))
last_in ws false q = (ws, q)

-- m: the emergency may wait after the write; y: 1014h is written with bit 31 clear; w: it waited.
newly : (m y w : Bool) → (m ≡ true → y ≡ true) → (m && not (not (not y) && w)) ≡ (not w && m)
newly true y w f = rw (f refl) (sym (and-true (not w)))
newly false y w f = sym (and-false (not w))

-- It joins by a write exactly if 1014h is written, it did not wait and may now.
begins : (t : Bool) (s : Nmt) (v held i : ℕ) (g a w : Bool) → w ≡ may_alert s held i g a
    → (may_alert s (cond t v held) i g a && not (not (t && not (on v)) && w)) ≡ (t && (not w && may_alert s v i g a))
begins true s v held i g a w e =
    newly (may_alert s v i g a) (on v) w
    (λ m. (both (live s) (on v) (both (live s && on v) (eqb i 0) (both (live s && on v && eqb i 0) (not (beq g a)) m).0).0).1)
begins false s v held i g a w e = rw (← e) (and-not_self w)

-- A request is served: the reply does not wait.
module _ (h : Head) (valid : Valid h) (l : is_live h.core ≡ true) (free : waits h sdo_reply ≡ false) where
  abbrev c : Core
  c = h.core

  abbrev ws : List ℕ
  ws = waiting h.line

  served_line : (s : Served) {left : List ℕ} {b : Bool} → withdraws ws (goes c (serving c s)) ≡ left
      → (is_alerting (serving c s) && not (has line.emergency left)) ≡ b → waiting (act false h (serve s)).line ≡ left ++ joining b
  served_line s {left} {b} out e =
      let due = is_alerting (serving c s) in
      let into : comes request_moments (serving c s) ≡ joining due = rw l in
      let gone : has line.sdo_reply left ≡ false =
      rw (← out, has_withdraws line.sdo_reply ws (goes c (serving c s)), free) (and-false (not (has line.sdo_reply (goes c (serving c s)))))
      in
      (laws places).all (holds_act false h (serve s) valid)
      ∙ ap (joins (withdraws ws (goes c (serving c s)))) into
      ∙ ap (λ r. joins r (joining due)) out
      ∙ reply_joins_law due left gone
      ∙ ap (λ t. left ++ joining t) e

  pub at_the_end : (s : Served) → (ahead : List ℕ) × (waiting (act false h (serve s)).line ≡ ahead ++ line.sdo_reply ∷ [])
  at_the_end s =
      let left = withdraws ws (goes c (serving c s)) in
      last_in left (is_alerting (serving c s) && not (has line.emergency left)) (served_line s refl refl)

  -- An aborted request and a read: no condition ends or begins.
  pub only_reply : (bytes : List ℕ) (t : Transfer)
      → waiting (act false h (serve (segmented bytes t))).line ≡ ws ++ line.sdo_reply ∷ []
  only_reply bytes t =
      let s : Served = segmented bytes t in
      let none_goes : goes c (serving c s) ≡ [] = simp and-not_self in
      let none-comes = ap (λ t. t && not (waits h emergency)) (sym (emergency_exactly h valid)) ∙ and-not_self (waits h emergency) in
      served_line s (ap (withdraws ws) none_goes) none-comes

  -- an accepted write
  pub write_line : (f : List ℕ) (k v : ℕ) → barred c.device k v ≡ false
      → waiting (act false h (serve (confirmed f (own_key k) v))).line ≡ withdraws ws (those (takes k v)) ++ those (brings h k v)
  unfolding put
  write_line f k v b =
      let now = serving c (confirmed f (own_key k) v) in
      let alike : (x : Kind) → has (number x) ws ≡ true → has (number x) (goes c now) ≡ has (number x) (those (takes k v)) =
      λ x w. has_those (λ y. may_stay c y && not (may_stay now y)) x
      ∙ ap (λ t. t && not (may_stay now x)) (valid.only x w)
      ∙ ends c f k v b x (valid.only x w)
      ∙ sym (has_those (takes k v) x) in
      let still =
      has_withdraws line.emergency ws (those (takes k v)) ∙ ap (λ t. not t && waits h emergency) (has_those (takes k v) emergency) in
      let comes =
      begins (eqb k emergency_key) c.nmt v (communication c).emergency c.timers.inhibit (good c) c.announced (waits h emergency)
      (emergency_exactly h valid) in
      served_line (confirmed f (own_key k) v)
      (withdrawn_alike ws (goes c now) (those (takes k v)) valid.line.kinds alike)
      (ap (λ t. is_alerting now && not t) still ∙ ap (λ t. t && not (not (takes k v emergency) && waits h emergency)) (alert_written c f k v) ∙ comes)

  pub write_waits : (f : List ℕ) (k v : ℕ) → barred c.device k v ≡ false → (x : Kind)
      → waits (act false h (serve (confirmed f (own_key k) v))) x ≡ ((not (takes k v x) && waits h x) || brings h k v x)
  write_waits f k v b x =
      let out = those (takes k v) in
      let into = those (brings h k v) in
      ap (has (number x)) (write_line f k v b)
      ∙ has_append (number x) (withdraws ws out) into
      ∙ ap (λ t. t || has (number x) into) (has_withdraws (number x) ws out)
      ∙ ap₂ (λ t u. (not t && waits h x) || u) (has_those (takes k v) x) (has_those (brings h k v) x)
