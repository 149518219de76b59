-- What a frame means, decided from parts of a head, is what `promises` says.
use Prim.Native.Nat.{ℕ, ◌+◌, ◌<◌}
use native.Mathlib.Omega.{arith}
use lib.Dec.{eqb, leb}
use Rattle.std.specs.Prelude.{Option, None, Some}
use mathlib.Core.Path.{◌≡◌, refl}
use mathlib.Core.Bool.{true, false, not, ◌&&◌, ◌||◌, cond}
use mathlib.Core.List.{List}
use borrow.Author.Tests.{eqb-true, ne_eqb}
use Rattle.cases.proofs.Cases.{by₂, test, both}
use Rattle.can.specs.declared.Received.{Received}
use Rattle.can.specs.Frame.{refusal_of}
use Rattle.names.specs.declared.Transfer.{Transfer}
use Rattle.names.specs.Transfer.{no_transfer}
use Rattle.entries.specs.Table.{lookup, Found}
use Rattle.dictionary.specs.Writes.{own_key, Fits}
use Rattle.dictionary.proofs.Laws.{laws}
use Rattle.sdo.specs.declared.reply.Effect.TheVariants.{Write}
use Rattle.sdo.specs.Request.{index_of, sub_of}
use Rattle.sdo.specs.Reply.{segmented}
use Rattle.sdo.specs.Service.{Due, none, value, confirmation, abort, upload, answer}
use Rattle.sdo.specs.Upload.{due_in}
use Rattle.sdo.specs.Laws.{Told}
use Rattle.sdo.proofs.UploadLaws.{told_in}
use Rattle.waiting.specs.Line as line
use Rattle.waiting.specs.Line.{has}
use Rattle.parts.specs.declared.Core.{Core}
use Rattle.parts.specs.declared.Head.{Head}
use Rattle.promises.specs.States.{CommandedState, operational, stopped, pre_operational, state, is_in, is_initialising, is_live, node, Reset, of_node, of_communication}
use Rattle.promises.specs.States.{Command, no_command, to_enter, to_reset, command_of}
use Rattle.promises.specs.Acts.{Act, nothing, enter, reset, sync, serve}
use Rattle.promises.specs.Calls.{receive, is_served, commanded, synchronised, served, requested, heard_unrefused}
use Rattle.promises.specs.Calls.{ends_transfer, transfer_after}
use Rattle.nmt.specs.declared.Order.{Order}
use Rattle.nmt.specs.declared.Order.TheVariants.{Enter, Reset as reset_order}
use Rattle.nmt.specs.Orders.{order_of}
use Rattle.nmt.proofs.Entered.{of_all}
use Rattle.steps.specs.declared.hear.Heard.{Heard}
use Rattle.steps.specs.declared.hear.Way.TheVariants.{Replies, Syncs, Ends}
use Rattle.steps.specs.Hear.{heard_as, synced_by, ordered_by, commanded_by, write_way, served_by, requested_by, unrefused_by}

-- a frame that is heard so means this act; t is the transfer before it
pub data Means (c : Core) (t : Transfer) : Option Heard → Act → Type 0 where
  passes : Means c t None nothing
  -- the client's abort
  ends : (u : Transfer) → Means c t (Some (heard_as (Some u) Ends)) nothing
  syncs : Means c t (Some (heard_as None Syncs)) sync
  enters : (g : CommandedState) → is_in g c ≡ false → Means c t (Some (ordered_by (Enter (state g)))) (enter g)
  resets : (r : Reset) → Means c t (Some (ordered_by (reset_order (of_all r)))) (reset r)
  replies : (b : List ℕ) (u : Transfer) → is_live c ≡ true → Means c t (Some (heard_as (Some u) (Replies b))) (serve (segmented b u))
  -- the value of a write is one that its entry accepts
  writes : (b : List ℕ) (k x : ℕ) → is_live c ≡ true → Fits c.device.settings.profile k x
      → Means c t (Some (heard_as (Some no_transfer) (write_way (record { reply = b; key = k; value = x }))))
      (serve (record { bytes = b; effect = Write k x; transfer = no_transfer }))

module _ (h : Head) where
  abbrev c : Core
  c = h.core

  abbrev t : Transfer
  t = h.transfer

  orders : (k : Command) → Means c t (commanded_by (order_of c.nmt k)) (commanded c k)
  orders no_command = passes
  orders (to_enter g) = by₂ (λ (o : Option Order) (a : Act). Means c t (commanded_by o) a) (is_in g c) (λ _. passes) (λ e. enters g e)
  orders (to_reset of_node) = resets of_node
  orders (to_reset of_communication) = resets of_communication

  synchronises : (length : ℕ) → Means c t (synced_by c.nmt length) (synchronised c length)
  synchronises length = by₂ (Means c t) (leb length 1 && is_in operational c) (λ _. syncs) (λ _. passes)

  module _ (f : Received) where
    serves : is_live c ≡ true → (x : Found) (u : Due) → Told c.device (is_in operational c) f.bytes x u
        → Means c t (Some (served_by (answer f.bytes u))) (served (answer f.bytes u))
    serves l x none k = ends _
    serves l x (value w n) k = replies _ _ l
    serves l x (abort code) k = replies _ _ l
    serves l x (upload b u) k = replies _ _ l
    serves l x (confirmation i y) k =
        writes _ (own_key i) y l (rw k.key (laws.written_fits c.device k.its_row y k.takes))

    asks : Means c t (requested_by c.nmt c.device t h.line f) (requested h f)
    asks =
        by₂ (Means c t) (is_served h f)
        (λ e.
        let l = (both (eqb f.length 8) (is_live c) (both (eqb f.length 8 && is_live c) (not (has line.sdo_reply h.line)) e).0).1 in
        let b = f.bytes in
        let o = is_in operational c in
        serves l (lookup (index_of b) (sub_of b)) (due_in c.device o t b) (told_in c.device o t b))
        (λ _. passes)

    pub means : Means c t (unrefused_by c.nmt c.device t h.line f) (heard_unrefused h f)
    means =
        by₂ (Means c t) (f.extended || f.remote || is_initialising c) (λ _. passes) (λ _.
        by₂ (Means c t) (eqb f.identifier 0x000) (λ _. orders (command_of (node c) f)) (λ _.
        by₂ (Means c t) (eqb f.identifier 0x080) (λ _. synchronises f.length) (λ _.
        by₂ (Means c t) (eqb f.identifier (0x600 + node c)) (λ _. asks) (λ _. passes))))

-- The transfer that a frame leaves, t being the one before it.
abbrev pub left_by : Transfer → Option Transfer → Transfer
left_by t None = t
left_by t (Some u) = u

abbrev pub leaving : Transfer → Option Heard → Transfer
leaving t None = t
leaving t (Some x) = left_by t x.transfer

module _ (c : Core) (t : Transfer) where
  abbrev Kept : Option Heard → Act → Type 0
  Kept x a = leaving t x ≡ cond (ends_transfer a) no_transfer t

  entered : (g : CommandedState) → Kept (Some (ordered_by (Enter (state g)))) (enter g)
  entered operational = refl
  entered stopped = refl
  entered pre_operational = refl

  ordered : (k : Command) → Kept (commanded_by (order_of c.nmt k)) (commanded c k)
  ordered no_command = refl
  ordered (to_enter g) = by₂ (λ (o : Option Order) (a : Act). Kept (commanded_by o) a) (is_in g c) (λ _. refl) (λ _. entered g)
  ordered (to_reset of_node) = refl
  ordered (to_reset of_communication) = refl

module _ (h : Head) (f : Received) where
  abbrev now : Core
  now = h.core

  abbrev Left : Option Heard → Type 0
  Left x = leaving h.transfer x ≡ transfer_after h (receive f)

  abbrev heard : Option Heard
  heard = unrefused_by now.nmt now.device h.transfer h.line f

  -- of a frame that is not refused
  pub transfer_so : eqb (refusal_of f) 0 ≡ true → Left heard
  transfer_so u =
      test (f.extended || f.remote || is_initialising now)
      (λ e. rw (u, e))
      (λ e. test (eqb f.identifier 0x000) (by_command e)
      (λ i. test (eqb f.identifier 0x080) (by_sync e i) (by_request e i)))
    where
      apart : (a : ℕ) → a < 0x600 → eqb f.identifier a ≡ true → eqb f.identifier (0x600 + node now) ≡ false
      apart a l i = ne_eqb f.identifier (0x600 + node now) (λ j. omega (arith, l, eqb-true f.identifier a i, j))

      by_command : (f.extended || f.remote || is_initialising now) ≡ false → eqb f.identifier 0x000 ≡ true → Left heard
      by_command e i = rw (u, e, i, apart 0x000 (omega arith) i) (ordered now h.transfer (command_of (node now) f))

      by_sync : (f.extended || f.remote || is_initialising now) ≡ false → eqb f.identifier 0x000 ≡ false → eqb f.identifier 0x080 ≡ true → Left heard
      by_sync e i j =
          rw (u, e, i, j, apart 0x080 (omega arith) j)
          (by₂ (Kept now h.transfer) (leb f.length 1 && is_in operational now) (λ _. refl) (λ _. refl))

      by_request : (f.extended || f.remote || is_initialising now) ≡ false → eqb f.identifier 0x000 ≡ false → eqb f.identifier 0x080 ≡ false
          → Left heard
      by_request e i j =
          test (eqb f.identifier (0x600 + node now))
          (λ k. test (is_served h f) (λ s. rw (u, e, i, j, k, s)) (λ s. rw (u, e, i, j, k, s)))
          (λ k. rw (u, e, i, j, k))
