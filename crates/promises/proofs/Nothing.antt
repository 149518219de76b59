-- A call that has no effect leaves the head unchanged.
use mathlib.Core.Path.{◌≡◌, sym, ap, ◌∙◌}
use mathlib.Core.Bool.{false, and-not_self}
use mathlib.Core.List.{[]}
use Rattle.waiting.specs.Calls.{withdraws_in}
use Rattle.parts.specs.declared.Head.{Head}
use Rattle.parts.specs.Put.{with_transfer}
use Rattle.promises.specs.Acts.{nothing, settled_to, act, goes}
use Rattle.promises.specs.Calls.{Call, is_slot, meant, transfer_after, step}

pub act_nothing : (h : Head) → act false h nothing ≡ h
unfolding act settled_to
act_nothing h =
    let none_goes : goes h.core h.core ≡ [] = simp and-not_self in
    ap {B = Head} (λ out. record { core = h.core; transfer = h.transfer; line = withdraws_in h.line out }) none_goes

-- a call that leaves the transfer
pub act_step : (h : Head) (c : Call) → transfer_after h c ≡ h.transfer → act (is_slot c) h (meant h c) ≡ step h c
unfolding act settled_to
act_step h c e = ap (with_transfer (act (is_slot c) h (meant h c))) (sym e)

-- but for the transfer
pub step_but : (h : Head) (c : Call) → is_slot c ≡ false → meant h c ≡ nothing → step h c ≡ with_transfer h (transfer_after h c)
step_but h c e m = rw (e, m) (ap (λ (g : Head). with_transfer g (transfer_after h c)) (act_nothing h))

pub step_nothing : (h : Head) (c : Call) → is_slot c ≡ false → meant h c ≡ nothing → transfer_after h c ≡ h.transfer → step h c ≡ h
step_nothing h c e m t = step_but h c e m ∙ ap (with_transfer h) t
