-- Proves `Serves` of specs/Service.antt: each request that is served gets what is due.
use Prim.Native.Nat.{◌+◌}
use lib.Dec.{eqb}
use mathlib.Core.Path.{◌≡◌, refl, sym, ap, ◌∙◌}
use mathlib.Core.Logic.{◌↔◌}
use mathlib.Core.Bool.{true, false, not, ◌&&◌, ◌||◌}
use borrow.Author.Tests.{eqb-true, eq-eqb, not-true}
use Rattle.cases.proofs.Cases.{test, both, true_false}
use Rattle.can.specs.declared.Received.{Received}
use Rattle.can.specs.Frame.{refusal_of}
use Rattle.sdo.specs.Request.{aborting}
use Rattle.sdo.proofs.UploadLaws.{uploads}
use Rattle.waiting.specs.Places.{waiting}
use Rattle.parts.specs.declared.Core.{Core}
use Rattle.parts.specs.declared.Head.{Head}
use Rattle.promises.specs.States.{operational, is_in, is_initialising, is_live, node}
use Rattle.promises.specs.WaitingLine.{sdo_reply}
use Rattle.promises.specs.Acts.{Act, nothing, enter, reset, boot, idle, send, take, lose, time, sync, serve, acted, moments_of, act}
use Rattle.promises.specs.Calls.{receive, is_heard, meant, step}
use Rattle.promises.specs.Valid.{waits, Valid}
use Rattle.promises.specs.Meant.{Heard, Requests, reply_waits}
use Rattle.promises.specs.Histories.{Reachable}
use Rattle.promises.specs.Service.{reply_due, Replied, is_request, is_answered, Serves}
use Rattle.promises.proofs.Unmeant.{aborted, not_meant}
use Rattle.promises.proofs.Meant.{core_step}
use Rattle.promises.proofs.Causes.{Cause, cause, asked_by, requests}
use Rattle.promises.proofs.ReplyJoins.{at_the_end}
use Rattle.promises.proofs.Histories.{valid_reachable}

-- an act by which no reply joins
abbrev pub JoinsNot : Core → Act → Type 0
JoinsNot c a = moments_of c a sdo_reply ≡ false

module _ (h : Head) (f : Received) where
  pub heard_as : is_heard h f ≡ true → Heard h f
  heard_as e =
      let n = not (f.extended || f.remote || is_initialising h.core) in
      let u = both (eqb (refusal_of f) 0) n e in
      record { unrefused = eqb-true _ _ u.0; heard = not-true _ u.1 }

  pub is_request_law : (is_request h f ≡ true) ↔ Requests h f
  is_request_law = (
    as_record,
    λ r. rw (
      eq-eqb _ _ r.hears.unrefused,
      r.hears.heard,
      eq-eqb _ _ r.identifier,
      eq-eqb _ _ r.length,
      r.live,
      r.free,
    ),
  )
    where
      as_record : is_request h f ≡ true → Requests h f
      as_record e =
          let i = eqb f.identifier (0x600 + node h.core) in
          let l = eqb f.length 8 in
          let a = both (is_heard h f && i && l && is_live h.core) (not (waits h sdo_reply)) e in
          let b = both (is_heard h f && i && l) (is_live h.core) a.0 in
          let c = both (is_heard h f && i) l b.0 in
          let d = both (is_heard h f) i c.0 in
          record {
            hears = heard_as d.0;
            identifier = eqb-true _ _ d.1;
            length = eqb-true _ _ c.1;
            live = b.1;
            free = not-true _ a.1;
          }

  module _ (v : Valid h) where
    serves_it : Requests h f → aborting f.bytes ≡ false → meant h (receive f) ≡ serve (reply_due h f)
    serves_it r a = requests h f v r ∙ rw ((uploads h.core.device (is_in operational h.core) h.transfer f.bytes).replied, a)

    pub gets_what_is_due : Requests h f → aborting f.bytes ≡ false → Replied h f (step h (receive f))
    gets_what_is_due r a =
        let s = reply_due h f in
        let j = at_the_end h v r.live r.free s in
        let core : (step h (receive f)).core ≡ acted h.core (serve s) = core_step h (receive f) ∙ ap (acted h.core) (serves_it r a) in
        record {
          ahead = j.0;
          joins = ap (λ x. waiting (act false h x).line) (serves_it r a) ∙ j.1;
          bytes = ap (λ c. c.reply) core;
          device = ap (λ c. c.device) core;
          transfer = rw (asked_by h f v r);
        }

    pub busy : f.identifier ≡ 0x600 + node h.core → waits h sdo_reply ≡ true → step h (receive f) ≡ h
    busy i w = not_meant h f v (reply_waits i w)

    -- only a request that is answered lets the reply join
    unjoined : (a : Act) → Cause h f a → (Requests h f → ⊥) → JoinsNot h.core a
    unjoined nothing x n = refl
    unjoined (enter g) x n = refl
    unjoined (reset r) x n = refl
    unjoined boot x n = absurd x
    unjoined idle x n = absurd x
    unjoined (send k) x n = absurd x
    unjoined (take r) x n = absurd x
    unjoined lose x n = absurd x
    unjoined time x n = absurd x
    unjoined sync x n = refl
    unjoined (serve s) x n = absurd (n x.0)

    pub unanswered : is_answered h f ≡ false → JoinsNot h.core (meant h (receive f))
    unanswered e =
        test (is_request h f)
        (λ r. test (aborting f.bytes)
        (λ a. ap (λ x. moments_of h.core x sdo_reply) (aborted h f (is_request_law.0 r).identifier a))
        (λ a. true_false (rw (r, a) at e)))
        (λ n. unjoined (meant h (receive f)) (cause h f v) (λ r. true_false (sym (is_request_law.1 r) ∙ n)))

pub serves : (h : Head) → Reachable h → Serves h
serves h r =
    let v = valid_reachable h r in
    record { is_request_law = is_request_law h; gets_what_is_due = λ f. gets_what_is_due h f v; busy = λ f. busy h f v }
