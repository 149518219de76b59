-- `checked` meets its contract: the node, a name, or neither is refused.
use Rattle.dictionary.specs.Valid.{FitsIdentity}
use Rattle.head.proofs.PowerUps.{bad_node, bad_name, taken}
use mathlib.Core.Path.{◌≡◌}
use mathlib.Core.Bool.{true, false}
use native.Mathlib.Omega.{arith}
use Rattle.entries.specs.Identity.{has_names}
use Rattle.head.proofs.checked.Goals as goal

pub returns-then-not-node : goal.returns-then-not-node
returns-then-not-node c =
    let a = c.args.setup in
    record { value = bad_node a.node a.identity c.if-not-node.true; fits_identity = tt }

pub returns-then-not-is_name : goal.returns-then-not-is_name
returns-then-not-is_name c =
    let a = c.args.setup in
    let tested : has_names a.identity ≡ false =
    rw (← c.is_name.ensures.value, ← c.is_name-2.ensures.value, ← c.is_name-3.ensures.value) c.if-not-is_name.true in
    record { value = bad_name a.node a.identity c.if-not-node.false tested; fits_identity = tt }

pub returns : goal.returns
returns c =
    let a = c.args.setup in
    let tested : has_names a.identity ≡ true =
    rw (← c.is_name.ensures.value, ← c.is_name-2.ensures.value, ← c.is_name-3.ensures.value) c.if-not-is_name.false in
    let fits : FitsIdentity a.identity =
    record {
      vendor = omega (arith, c.well_formed);
      product = omega (arith, c.well_formed);
      revision = omega (arith, c.well_formed);
      serial = omega (arith, c.well_formed);
      arrays = (c.is_name.ensures.bytes_len, c.is_name-2.ensures.bytes_len, c.is_name-3.ensures.bytes_len);
    } in
    record { value = taken a.node a.identity c.if-not-node.false tested; fits_identity = fits }
