-- The head after each way of a received frame is what `promises` says, and is valid.
use lib.Dec.{eqb, leb}
use mathlib.Core.Path.{◌≡◌, refl, sym, ap, ap₂, subst, ◌∙◌}
use mathlib.Core.Bool.{true, false, ◌||◌}
use borrow.Author.Tests.{eqb-true, eq-eqb}
use Rattle.std.specs.Prelude.{Option, None, Some, Result, Ok, Err}
use Rattle.cases.proofs.Cases.{by, true_false}
use Rattle.can.specs.declared.Received.{Received}
use Rattle.can.specs.declared.Refusal.{Refusal}
use Rattle.can.specs.Frame.{refusal_of, number_of, refusal_with}
use Rattle.can.proofs.Refusals.{numbered}
use Rattle.names.specs.declared.Transfer.{Transfer}
use Rattle.position.specs.Profile.{ValidProfile}
use Rattle.entries.specs.Keys.{error_count_key, save_key, load_key, operating_key}
use Rattle.parts.specs.declared.Core.{Core}
use Rattle.parts.specs.declared.Head.{Head}
use Rattle.parts.specs.Put.{with_transfer}
use Rattle.promises.specs.States.{of_node, of_communication}
use Rattle.promises.specs.Acts.{Act, nothing, settled_to, act}
use Rattle.promises.specs.Calls.{receive, heard_unrefused, heard, transfer_after, step, answered}
use Rattle.promises.specs.Valid.{Valid}
use Rattle.promises.specs.Promised.{Receives}
use Rattle.promises.proofs.Nothing.{act_nothing}
use Rattle.promises.proofs.Fits.{fits}
use Rattle.promises.proofs.Refusals.{frame_refused}
use Rattle.promises.proofs.Valid.{valid_act, handed as valid-handed, valid_step}
use Rattle.tpdo.proofs.Synchronised as tpdo
use Rattle.nmt.proofs.Entered as nmt
use Rattle.server.proofs.Requests as server
use Rattle.steps.specs.declared.hear.Heard.{Heard}
use Rattle.steps.specs.declared.hear.Way.{Way}
use Rattle.steps.specs.Hear.{unrefused_by}
use Rattle.steps.specs.Obey.{went, handed, obeyed_in, Fitting, FittingIn}
use Rattle.steps.specs.Passes.{heard_in}
use Rattle.steps.proofs.Heard.{Means, passes, ends, syncs, enters, resets, replies, writes, means, left_by, leaving, transfer_so}

-- an act does not look at the transfer
act_handed : (h : Head) (t : Transfer) (a : Act) → act false (with_transfer h t) a ≡ with_transfer (act false h a) t
unfolding act settled_to
act_handed h t a = refl

module _ (h : Head) (v : Valid h) where
  abbrev Goes : Act → Way → Type 0
  Goes a way = went h way ≡ act false h a

  obeys_in : {t : Transfer} {x : Heard} {a : Act} → Means h.core t (Some x) a → Valid (act false h a) → Goes a x.way
  obeys_in (ends t) u = sym (act_nothing h)
  obeys_in syncs u = tpdo.syncs h v
  obeys_in (enters g e) u = nmt.enters h v g e
  obeys_in (resets of_node) u = nmt.resets h v of_node u
  obeys_in (resets of_communication) u = nmt.resets h v of_communication u
  obeys_in (replies b t l) u = server.replies h v l b t
  obeys_in {a = a} (writes b k x l f) u =
      by (Goes a) (eqb k error_count_key) (λ e. server.empties h v l b k x e) (λ e.
      by (Goes a) (eqb k save_key || eqb k load_key) (λ s. server.saves h v l b k x s) (λ s.
      by (Goes a) (leb operating_key k)
      (λ p. server.scales h v l b k x e s p)
      (λ p. server.configures h v l b k x e s p)))

-- a frame that passes means nothing
passing : {c : Core} {t : Transfer} {a : Act} → Means c t None a → a ≡ nothing
passing passes = refl

fitting : {c : Core} {t : Transfer} {x : Heard} {a : Act} → Means c t (Some x) a → Fitting c.device.settings.profile x.way
fitting (ends u) = tt
fitting syncs = tt
fitting (enters g e) = tt
fitting (resets of_node) = tt
fitting (resets of_communication) = tt
fitting (replies b u l) = tt
fitting {c} (writes b k x l f) =
    let P = Fitting c.device.settings.profile in
    by P (eqb k error_count_key) (λ _. tt) (λ _.
    by P (eqb k save_key || eqb k load_key) (λ _. tt) (λ _.
    by P (leb operating_key k) (λ _. f) (λ _. tt)))

module _ (h : Head) (v : Valid h) (f : Received) where
  -- what `steps::hear::hear` asks for
  pub profile_valid : ValidProfile h.core.device.settings.profile
  profile_valid = v.device.settings.profile

  -- the call's promise, for each thing that a frame may mean
  abbrev pub Obeys : Result (Option Heard) Refusal → Type 0
  Obeys (Err r) = Receives h f (answered (number_of r) h)
  Obeys (Ok x) = Receives h f (answered 0 (obeyed_in h x)) × FittingIn h.core.device.settings.profile x

  refused : (r : Refusal) → eqb (refusal_of f) 0 ≡ false → number_of r ≡ refusal_of f → Obeys (Err r)
  refused r n e =
      (ap₂ answered e (sym (frame_refused h f (λ z. true_false (sym (eq-eqb (refusal_of f) 0 z) ∙ n)))), v)

  handed_by : (t : Option Transfer) → handed h t ≡ with_transfer h (left_by h.transfer t)
  handed_by None = refl
  handed_by (Some t) = refl

  module _ (u : eqb (refusal_of f) 0 ≡ true) where
    heard_so : (x : Option Heard) → Means h.core h.transfer x (heard h f) → leaving h.transfer x ≡ transfer_after h (receive f) → Obeys (Ok x)
    heard_so None m t =
        let p : h ≡ step h (receive f) =
        ap₂ {C = Head} with_transfer (sym (act_nothing h) ∙ ap (act false h) (sym (passing m))) t in
        ((ap₂ answered (sym (eqb-true (refusal_of f) 0 u)) p, v), tt)
    heard_so (Some x) m t =
        let after = left_by h.transfer x.transfer in
        let g = with_transfer h after in
        let w = valid-handed h after v in
        let p : obeyed_in h (Some x) ≡ step h (receive f) =
        ap (λ k. went k x.way) (handed_by x.transfer)
        ∙ obeys_in g w m (valid_act false g (heard h f) (fits h (receive f)) w)
        ∙ act_handed h after (heard h f)
        ∙ ap (with_transfer (act false h (heard h f))) t in
        ((ap₂ answered (sym (eqb-true (refusal_of f) 0 u)) p, subst Valid (sym p) (valid_step h (receive f) v)), fitting m)

    taken : Obeys (Ok (unrefused_by h.core.nmt h.core.device h.transfer h.line f))
    taken =
        let m : heard h f ≡ heard_unrefused h f = rw u in
        let x = unrefused_by h.core.nmt h.core.device h.transfer h.line f in
        heard_so x (subst (Means h.core h.transfer x) (sym m) (means h f)) (transfer_so h f u)

  pub obeys : Obeys (heard_in h f)
  obeys = by Obeys (eqb (refusal_of f) 0) taken (λ n. refused (refusal_with (refusal_of f)) n (numbered f n))

  pub obeys_so : {z : Result (Option Heard) Refusal} → z ≡ heard_in h f → Obeys z
  obeys_so e = subst Obeys (sym e) obeys
