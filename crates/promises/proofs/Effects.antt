-- Proves `ServedRightly` of specs/Effects.antt: what a served request does, for each kind of reply due to it.
use Prim.Native.Nat.{ℕ}
use lib.Dec.{eqb}
use mathlib.Core.Path.{◌≡◌, refl, sym, ap, subst, ◌∙◌}
use mathlib.Core.Bool.{Bool, false}
use mathlib.Core.List.{List, [], ◌∷◌, map}
use mathlib.Core.Option.{Option, none, some}
use borrow.Author.Tests.{eqb-false, ne_eqb}
use Rattle.cases.proofs.Cases.{neither}
use Rattle.can.specs.declared.Received.{Received}
use Rattle.names.specs.declared.Transfer.{Transfer}
use Rattle.entries.specs.declared.Device.{Device}
use Rattle.std.specs.Prelude.{Ok as At, Some as Number}
use Rattle.entries.specs.Table.{key_of, lookup}
use Rattle.dictionary.specs.Shown.{Shown}
use Rattle.dictionary.specs.Reads.{read_of, reads}
use Rattle.dictionary.specs.Writes.{own_key, written, put}
use Rattle.dictionary.specs.Effects.{given, effects, anew, read_back}
use Rattle.dictionary.proofs.Effects.{effect_laws}
use Rattle.entries.specs.Keys.{save_key, load_key}
use Rattle.dictionary.proofs.Own.{own_other}
use Rattle.sdo.specs.Request.{index_of, sub_of}
use Rattle.sdo.specs.Reply.{confirmed, segmented}
use Rattle.sdo.specs.Service.{confirmation, answer}
use Rattle.sdo.specs.Laws.{Confirmed, Told}
use Rattle.sdo.proofs.UploadLaws.{told_in}
use Rattle.waiting.specs.Line.{has}
use Rattle.parts.specs.declared.Head.{Head}
use Rattle.parts.specs.Put.{with_transfer}
use Rattle.promises.specs.States.{operational, is_in}
use Rattle.promises.specs.Acts.{serve, settled_to, act}
use Rattle.promises.specs.Calls.{receive, meant, transfer_after, step}
use Rattle.promises.specs.Valid.{Valid}
use Rattle.promises.specs.Meant.{Requests, due_to}
use Rattle.promises.specs.Effects.{OnlyReplied, Effects, Served, ServedRightly}
use Rattle.promises.proofs.Nothing.{step_but}
use Rattle.promises.proofs.Causes.{asked_by, means}
use Rattle.promises.proofs.Histories.{valid_reachable}
use Rattle.promises.proofs.Counts.{unbarred}
use Rattle.promises.proofs.Restarts.{counts}
use Rattle.promises.proofs.ReplyJoins.{only_reply, write_line, write_waits}

pub untouched : (es : List (ℕ × Shown)) (k : ℕ) (x : Option Shown) → has k (map (λ e. e.0) es) ≡ false → anew es k x ≡ x
untouched es k none h = refl
untouched es k (some s) h = ap some (unnamed es h)
  where
    unnamed : (es : List (ℕ × Shown)) → has k (map (λ e. e.0) es) ≡ false → given es k s ≡ s
    unnamed [] h = refl
    unnamed (e ∷ es) h = let u = neither (eqb e.0 k) (has k (map (λ e. e.0) es)) h in
        rw (ne_eqb k e.0 (λ q. eqb-false e.0 k u.0 (sym q))) (unnamed es u.1)

-- where an accepted write goes, and that it is taken there
pub told : (h : Head) (f : Received) {k v : ℕ} → due_to h f ≡ confirmation k v
    → Confirmed h.core.device f.bytes (lookup (index_of f.bytes) (sub_of f.bytes)) k v
told h f e =
    let d = h.core.device in
    let o = is_in operational h.core in
    subst (Told d o f.bytes (lookup (index_of f.bytes) (sub_of f.bytes))) e (told_in d o h.transfer f.bytes)

module _ (h : Head) (f : Received) (valid : Valid h) (r : Requests h f) where
  abbrev d : Device
  d = h.core.device

  abbrev o : Bool
  o = is_in operational h.core

  -- a request that is served leaves the transfer that its answer says
  leaves : transfer_after h (receive f) ≡ (answer f.bytes (due_to h f)).transfer
  leaves = rw (asked_by h f valid r)

  -- by a reply of these bytes, which has no other effect
  replied : (bytes : List ℕ) (t : Transfer) → (answer f.bytes (due_to h f)).bytes ≡ bytes
      → meant h (receive f) ≡ serve (segmented bytes t)
      → OnlyReplied f h (step h (receive f))
  unfolding act settled_to
  replied bytes t e m =
      let after : OnlyReplied f h (with_transfer (act false h (serve (segmented bytes t))) (transfer_after h (receive f))) =
      record {
        entries = λ i j. refl;
        device = refl;
        nmt = refl;
        announced = refl;
        timers = refl;
        fixed = refl;
        reply = sym e;
        transfer = leaves;
        line = only_reply h valid r.live r.free bytes t;
      } in
      subst (λ a. OnlyReplied f h (with_transfer (act false h a) (transfer_after h (receive f)))) (sym m) after

  module _ (k v : ℕ) (e : due_to h f ≡ confirmation k v) where
    abbrev its : Confirmed d f.bytes (lookup (index_of f.bytes) (sub_of f.bytes)) k v
    its = told h f e

    reads_anew : (i j : ℕ) → reads (written d k v) o i j ≡ anew (effects d o k v) (key_of i j) (reads d o i j)
    reads_anew i j =
        subst (λ n. reads (written d n v) o i j ≡ anew (effects d o n v) (key_of i j) (reads d o i j)) (sym its.key)
        (effect_laws.reads_after_law d o its.its_row v valid.device its.takes i j)

    own : reads (written d k v) o (index_of f.bytes) (sub_of f.bytes) ≡ some (Number (read_back k v))
    own =
        ap (read_of (written d k v) o) its.found
        ∙ subst (λ n. read_of (written d n v) o (At its.its_row) ≡ some (Number (read_back n v))) (sym its.key)
        (ap some (effect_laws.own_after d o its.its_row v valid.device its.takes))

    accepted : Effects f k v h (step h (receive f))
    unfolding act settled_to put
    accepted =
        let after : Effects f k v h (with_transfer (act false h (serve (confirmed f.bytes (own_key k) v))) (transfer_after h (receive f))) =
        record {
          entries = reads_anew;
          others = λ i j u. reads_anew i j ∙ untouched (effects d o k v) (key_of i j) (reads d o i j) u;
          own = own;
          saved = rw (own_other k save_key refl refl, own_other k load_key refl refl);
          node = refl;
          identity = refl;
          reading = refl;
          nmt = refl;
          announced = refl;
          inhibit = refl;
          counts = counts h.core k v;
          still_fixed = refl;
          reply = refl;
          transfer = leaves ∙ ap (λ y. (answer f.bytes y).transfer) e;
          line = write_line h valid r.live r.free f.bytes k v (unbarred its);
          who_waits = write_waits h valid r.live r.free f.bytes k v (unbarred its);
        } in
        subst (λ a. Effects f k v h (with_transfer (act false h a) (transfer_after h (receive f)))) (sym (means h f valid r e)) after

  serves : Served h f
  serves =
      record {
        aborted = λ code e. replied _ _ (ap (λ y. (answer f.bytes y).bytes) e) (means h f valid r e);
        read = λ width n e. replied _ _ (ap (λ y. (answer f.bytes y).bytes) e) (means h f valid r e);
        segment = λ b t e. replied _ _ (ap (λ y. (answer f.bytes y).bytes) e) (means h f valid r e);
        client_aborts = λ e.
            step_but h (receive f) refl (means h f valid r e) ∙ ap (with_transfer h) (leaves ∙ ap (λ y. (answer f.bytes y).transfer) e);
        accepted = accepted;
      }

pub served_rightly : ServedRightly
served_rightly h x f r = serves h f (valid_reachable h x) r
