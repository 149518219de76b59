-- A frame that is not meant for the head has no effect: one equation for each reason.
use Prim.Native.Nat.{◌+◌}
use native.Mathlib.Omega.{arith}
use lib.Dec.{eqb, leb}
use mathlib.Core.Path.{◌≡◌, refl, sym, ap, ◌∙◌}
use mathlib.Core.Bool.{true, false, ◌&&◌, ◌||◌, or-true, and-false}
use borrow.Author.Tests.{eqb-true, ne_eqb, lt-leb}
use Rattle.cases.proofs.Cases.{by, test}
use Rattle.can.specs.declared.Received.{Received}
use Rattle.can.specs.Frame.{refusal_of}
use Rattle.names.specs.Transfer.{no_transfer}
use Rattle.sdo.specs.Request.{aborting}
use Rattle.sdo.specs.Service.{Due, answer}
use Rattle.sdo.proofs.UploadLaws.{uploads}
use Rattle.parts.specs.declared.Core.{Core}
use Rattle.parts.specs.declared.Head.{Head}
use Rattle.promises.specs.States.{operational, is_in, is_initialising, is_live, node, command, byte_of, command_of}
use Rattle.promises.specs.Acts.{Act, nothing}
use Rattle.promises.specs.Calls.{receive, is_served, commanded, synchronised, requested, is_heard, is_asked, meant, transfer_after, step}
use Rattle.promises.specs.Valid.{Valid}
use Rattle.promises.specs.Meant.{NotMeant, remote, of_29_bits, not_booted, other_identifier, command_length, other_node}
use Rattle.promises.specs.Meant.{other_command, state_held, sync_length, sync_state, request_length, request_state, reply_waits}
use Rattle.promises.specs.Meant.{client_abort}
use Rattle.promises.proofs.Nothing.{step_nothing}
use Rattle.promises.proofs.Waits.{reply_waiting}
use Rattle.promises.proofs.Hearing.{heard_by_law}

module _ (h : Head) (f : Received) where
  abbrev c : Core
  c = h.core

  abbrev None : Act → Type 0
  None a = a ≡ nothing

  outside : (f.extended || f.remote || is_initialising c) ≡ true → None (meant h (receive f))
  outside e = by None (eqb (refusal_of f) 0) (λ _. rw e) (λ _. refl)

  as_command : f.identifier ≡ 0x000 → None (commanded c (command_of (node c) f)) → None (meant h (receive f))
  as_command i x = heard_by_law h f None refl (λ _ _. x) (λ _ j. absurd (omega (arith, i, j))) (λ _ j. absurd (omega (arith, i, j)))

  as_sync : f.identifier ≡ 0x080 → None (synchronised c f.length) → None (meant h (receive f))
  as_sync i x = heard_by_law h f None refl (λ _ j. absurd (omega (arith, i, j))) (λ _ _. x) (λ _ j. absurd (omega (arith, i, j)))

  as_request : f.identifier ≡ 0x600 + node c → None (requested h f) → None (meant h (receive f))
  as_request i x = heard_by_law h f None refl (λ _ j. absurd (omega (arith, i, j))) (λ _ j. absurd (omega (arith, i, j))) (λ _ _. x)

  addressed : None (commanded c (command (byte_of f 0))) → None (commanded c (command_of (node c) f))
  addressed x = by (λ k. None (commanded c k)) (eqb f.length 2 && (eqb (byte_of f 1) 0 || eqb (byte_of f 1) (node c))) (λ _. x) (λ _. refl)

  -- the client's abort means nothing, but to a transfer
  pub aborted : f.identifier ≡ 0x600 + node c → aborting f.bytes ≡ true → meant h (receive f) ≡ nothing
  aborted i a =
      as_request i (by None (is_served h f)
      (λ _. rw ((uploads c.device (is_in operational c) h.transfer f.bytes).replied, a)) (λ _. refl))

  pub unmeant : Valid h → NotMeant h f → meant h (receive f) ≡ nothing
  unmeant v (remote e) = outside (rw (e, or-true f.extended))
  unmeant v (of_29_bits e) = outside (rw e)
  unmeant v (not_booted e) = outside (rw (e, or-true (f.extended || f.remote)))
  unmeant v (other_identifier x y z) = heard_by_law h f None refl (λ _ i. absurd (x i)) (λ _ i. absurd (y i)) (λ _ i. absurd (z i))
  unmeant v (command_length i n) = as_command i (rw (ne_eqb f.length 2 n))
  unmeant v (other_node i x y) = as_command i (rw (ne_eqb (byte_of f 1) 0 x, ne_eqb (byte_of f 1) (node c) y, and-false (eqb f.length 2)))
  unmeant v (other_command i e) = as_command i (addressed (rw e))
  unmeant v (state_held g i e s) = as_command i (addressed (rw (e, s)))
  unmeant v (sync_length i l) = as_sync i (rw (lt-leb f.length 1 l))
  unmeant v (sync_state i s) = as_sync i (rw (s, and-false (leb f.length 1)))
  unmeant v (request_length i n) = as_request i (rw (ne_eqb f.length 8 n))
  unmeant v (request_state i s) = as_request i (rw (s, and-false (eqb f.length 8)))
  unmeant v (reply_waits i w) = as_request i (rw (reply_waiting h v, w, and-false (eqb f.length 8 && is_live c)))
  unmeant v (client_abort i a e) = aborted i a

  -- none of these is a request that is served, but for the client's abort
  unheard : (f.extended || f.remote || is_initialising c) ≡ true → is_asked h f ≡ false
  unheard e = rw (e, and-false (eqb (refusal_of f) 0))

  pub unasked : (f.identifier ≡ 0x600 + node c → ⊥) → is_asked h f ≡ false
  unasked n = rw (ne_eqb f.identifier (0x600 + node c) n, and-false (is_heard h f))

  unserved : is_served h f ≡ false → is_asked h f ≡ false
  unserved e = rw (e, and-false (is_heard h f && eqb f.identifier (0x600 + node c)))

  pub kept : is_asked h f ≡ false → meant h (receive f) ≡ nothing → transfer_after h (receive f) ≡ h.transfer
  kept a m = rw (a, m)

  -- The client's abort leaves no transfer.
  pub ended : is_asked h f ≡ true → aborting f.bytes ≡ true → transfer_after h (receive f) ≡ no_transfer
  ended q a =
      let none_due = (uploads c.device (is_in operational c) h.transfer f.bytes).client.1 (eqb-true _ _ a) in
      rw q (ap (λ (x : Due). (answer f.bytes x).transfer) none_due)

  transfer_kept : Valid h → NotMeant h f → meant h (receive f) ≡ nothing → transfer_after h (receive f) ≡ h.transfer
  transfer_kept v (remote e) = kept (unheard (rw (e, or-true f.extended)))
  transfer_kept v (of_29_bits e) = kept (unheard (rw e))
  transfer_kept v (not_booted e) = kept (unheard (rw (e, or-true (f.extended || f.remote))))
  transfer_kept v (other_identifier x y z) = kept (unasked z)
  transfer_kept v (command_length i n) = kept (unasked (λ j. omega (arith, i, j)))
  transfer_kept v (other_node i x y) = kept (unasked (λ j. omega (arith, i, j)))
  transfer_kept v (other_command i e) = kept (unasked (λ j. omega (arith, i, j)))
  transfer_kept v (state_held g i e s) = kept (unasked (λ j. omega (arith, i, j)))
  transfer_kept v (sync_length i l) = kept (unasked (λ j. omega (arith, i, j)))
  transfer_kept v (sync_state i s) = kept (unasked (λ j. omega (arith, i, j)))
  transfer_kept v (request_length i n) = kept (unserved (rw (ne_eqb f.length 8 n)))
  transfer_kept v (request_state i s) = kept (unserved (rw (s, and-false (eqb f.length 8))))
  transfer_kept v (reply_waits i w) = kept (unserved (rw (reply_waiting h v, w, and-false (eqb f.length 8 && is_live c))))
  transfer_kept v (client_abort i a e) = λ m. test (is_asked h f) (λ q. ended q a ∙ sym e) (λ q. kept q m)

  pub not_meant : Valid h → NotMeant h f → step h (receive f) ≡ h
  not_meant v m = step_nothing h (receive f) refl (unmeant v m) (transfer_kept v m (unmeant v m))
