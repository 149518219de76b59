-- Proves `Transfers` of specs/Transfers.antt: what each request leaves, which calls leave a transfer as it is,
-- and so, call by call, what a transfer that runs is like.
use Prim.Native.Nat.{ℕ, suc, ◌*◌, ◌/◌, ◌%◌, ◌<◌, ◌≤◌}
use native.Mathlib.Omega.{arith}
use lib.Dec.{eqb, leb}
use lib.ListN.{get_or}
use mathlib.Core.Path.{◌≡◌, refl, sym, ap, ◌∙◌}
use mathlib.Core.Logic.{◌⊎◌, inl, inr, ⊎_elim}
use mathlib.Core.Bool.{Bool, true, false, not, ◌&&◌, ◌||◌, and-false}
use mathlib.Core.List.{List, [], ◌∷◌}
use borrow.Author.Tests.{eqb-true, eqb-false, eq-eqb, ne_eqb, leb-true, leb-false}
use Rattle.cases.proofs.Cases.{by, test, both, neither, true_false}
use Rattle.can.specs.declared.Received.{Received}
use Rattle.names.specs.declared.Transfer.{Transfer}
use Rattle.names.specs.Name.{is_name}
use Rattle.names.specs.Transfer.{starting as startingAt}
use Rattle.names.proofs.Laws.{laws as nameLaws}
use Rattle.entries.specs.declared.Device.{Device}
use Rattle.entries.specs.declared.Identity.{Identity}
use Rattle.entries.specs.Identity.{name_of}
use Rattle.dictionary.proofs.Names.{each_name}
use Rattle.sdo.specs.declared.reply.Effect.TheVariants.{Reply}
use Rattle.sdo.specs.declared.reply.Served.{Served}
use Rattle.sdo.specs.Request.{index_of, aborting}
use Rattle.sdo.specs.Reply.{carried_out}
use Rattle.sdo.specs.Service.{Due, none, value, confirmation, abort, upload, answer, due}
use Rattle.sdo.specs.Exactly.{ClientAborts}
use Rattle.sdo.specs.UploadLaws.{AsksSegment, Runs, UploadLaws}
use Rattle.sdo.proofs.Laws.{First, first}
use Rattle.sdo.proofs.UploadLaws.{uploads, listed}
use Rattle.parts.specs.declared.Head.{Head}
use Rattle.parts.specs.Put.{with_transfer}
use Rattle.promises.specs.States.{CommandedState, operational, stopped, pre_operational, is_in, is_initialising, is_live, node}
use Rattle.promises.specs.States.{Reset, Command, to_enter, to_reset, command, byte_of}
use Rattle.promises.specs.Acts.{Act, enter}
use Rattle.promises.specs.Calls.{Call, receive, tick, sample, slot, commanded, is_asked, meant, ends_transfer, step}
use Rattle.promises.specs.Valid.{Valid}
use Rattle.promises.specs.Meant.{Heard, Commands, Requests}
use Rattle.promises.specs.Histories.{after, PowerUp, powered, Reachable}
use Rattle.promises.specs.Service.{reply_due}
use Rattle.promises.specs.Gap.{is_command, stops_or_resets}
use Rattle.promises.specs.Transfers.{over, its, Leaves, Harmless, Between, InTransfer, Transfers}
use Rattle.promises.specs.Transfers.{Besides, a_slot, a_tick, a_sample, a_sync, starting, pausing, elsewhere}
use Rattle.promises.proofs.Nothing.{step_but}
use Rattle.promises.proofs.Hearing.{heard_by_law}
use Rattle.promises.proofs.Valid.{valid_step}
use Rattle.promises.proofs.Unmeant.{aborted, unasked, ended}
use Rattle.promises.proofs.Meant.{core_step, commands}
use Rattle.promises.proofs.Causes.{asked_by, asked_so}
use Rattle.promises.proofs.Halts.{Halts, stopping, resetting, stays_live, halted}
use Rattle.promises.proofs.Histories.{at_power_up, valid_powered, valid_reachable}
use Rattle.promises.proofs.Service.{gets_what_is_due}
use Rattle.promises.proofs.Owed.{replied_waits}
use Rattle.promises.proofs.Starts.{identity_after}

-- a request with these top bits is no abort of the client
pub no_abort : (f : Received) (n : ℕ) → eqb n 4 ≡ false → get_or f.bytes 0 0 / 32 ≡ n → aborting f.bytes ≡ false
no_abort f n e t = rw t e

-- A request that is served.
module _ (h : Head) (f : Received) (v : Valid h) (r : Requests h f) where
  its_laws : UploadLaws h.core.device (is_in operational h.core) h.transfer f.bytes
  its_laws = uploads h.core.device (is_in operational h.core) h.transfer f.bytes

  left : (step h (receive f)).transfer ≡ (reply_due h f).transfer
  left = rw (asked_by h f v r)

  -- what is due is a reply that writes nothing
  leaves : (bytes : List ℕ) (t : Transfer) → aborting f.bytes ≡ false
      → reply_due h f ≡ record { bytes = bytes; effect = Reply; transfer = t } → Leaves h (step h (receive f)) bytes t
  leaves bytes t a e =
      let g = gets_what_is_due h f v r a in
      record {
        replies = replied_waits h f g;
        reply = g.bytes ∙ ap (λ (s : Served). s.bytes) e;
        transfer = g.transfer ∙ ap (λ (s : Served). s.transfer) e;
        device = g.device ∙ ap (λ (s : Served). carried_out h.core.device s.effect) e;
      }

  client : ClientAborts f.bytes → step h (receive f) ≡ with_transfer h over
  client a =
      let e = eq-eqb _ _ a in
      step_but h (receive f) refl (aborted h f r.identifier e) ∙ ap (with_transfer h) (ended h f (asked_by h f v r) e)

  pub in_transfer_law : (Runs h.transfer → h.transfer.name ≤ 3) → InTransfer h f
  in_transfer_law m =
      let l = its_laws in
      let t = h.transfer in
      let size = (its h t.name).length in
      record {
        begins = λ k q a. leaves _ _ (no_abort f 2 refl q) (l.starts k q a);
        goes_on = λ u s e more. leaves _ _ (no_abort f 3 refl s) (l.segment u s e ∙ rw (nameLaws.on t size more));
        last = λ u s e less. leaves _ _ (no_abort f 3 refl s) (l.segment u s e ∙ rw (nameLaws.over t size less));
        wrong_toggle_law = λ u s n. leaves _ _ (no_abort f 3 refl s) (l.wrong_toggle_law u (m u) s n);
        no_transfer_law = λ e s. leaves _ _ (no_abort f 3 refl s) (l.no_transfer_law e s);
        read_only = λ k w a. leaves _ _ (no_abort f 1 refl w.0) (ap (answer f.bytes) (l.read_only k w a));
        ends = λ n q. left ∙ l.ends n q;
        client = client;
      }

-- A call that is no service request.
module _ (h : Head) where
  abbrev Goes : Act → Type 0
  Goes a = ends_transfer a ≡ false

  abbrev GoesBy : Command → Type 0
  GoesBy k = Goes (commanded h.core k)

  entering : (g : CommandedState) → ends_transfer (enter g) ≡ false → GoesBy (to_enter g)
  entering g e = by Goes (is_in g h.core) (λ _. refl) (λ _. e)

  -- none of the commands 02h, 81h and 82h
  by_byte : (b : ℕ) → (b ≡ 0x02 → ⊥) × (b ≡ 0x81 → ⊥) × (b ≡ 0x82 → ⊥) → GoesBy (command b)
  by_byte b n =
      by GoesBy (eqb b 0x01) (λ _. entering operational refl)
      (λ _. by GoesBy (eqb b 0x02) (λ e. absurd (n.0 (eqb-true _ _ e)))
      (λ _. by GoesBy (eqb b 0x80) (λ _. entering pre_operational refl)
      (λ _. by GoesBy (eqb b 0x81) (λ e. absurd (n.1 (eqb-true _ _ e)))
      (λ _. by GoesBy (eqb b 0x82) (λ e. absurd (n.2 (eqb-true _ _ e))) (λ _. refl)))))

  -- a command to the head that is harmless has another first byte
  spared : (f : Received) → Heard h f → f.identifier ≡ 0x000
      → (eqb f.length 2 && (eqb (byte_of f 1) 0 || eqb (byte_of f 1) (node h.core))) ≡ true
      → is_command (node h.core) stops_or_resets (receive f) ≡ false
      → let b = byte_of f 0 in (b ≡ 0x02 → ⊥) × (b ≡ 0x81 → ⊥) × (b ≡ 0x82 → ⊥)
  spared f x i t c =
      let plain = (neither (f.extended || f.remote) (is_initialising h.core) x.heard).0 in
      let u = both (eqb f.length 2) (eqb (byte_of f 1) 0 || eqb (byte_of f 1) (node h.core)) t in
      let b = byte_of f 0 in
      let other : stops_or_resets b ≡ false = rw (plain, eq-eqb _ _ i, u.0, u.1) at c in
      let s = neither (eqb b 0x02) (eqb b 0x81 || eqb b 0x82) other in
      let r = neither (eqb b 0x81) (eqb b 0x82) s.1 in
      (eqb-false _ _ s.0, eqb-false _ _ r.0, eqb-false _ _ r.1)

  pub goes_on : (f : Received) → Harmless (node h.core) f → Goes (meant h (receive f))
  goes_on f n =
      heard_by_law h f Goes refl
      (λ x i. by GoesBy (eqb f.length 2 && (eqb (byte_of f 1) 0 || eqb (byte_of f 1) (node h.core)))
      (λ t. by_byte (byte_of f 0) (spared f x i t n.1)) (λ _. refl))
      (λ _ _. by Goes (leb f.length 1 && is_in operational h.core) (λ _. refl) (λ _. refl))
      (λ _ i. absurd (n.0 i))

  pub stays : (c : Call) → Between (node h.core) c → (step h c).transfer ≡ h.transfer
  stays (receive f) n = rw (unasked h f n.0, goes_on f n)
  stays tick n = refl
  stays (sample s) n = refl
  stays slot n = refl

between : (n : ℕ) (c : Call) → Besides n c → Between n c
between n _ a_slot = tt
between n _ a_tick = tt
between n _ (a_sample s) = tt
between n _ (a_sync f i) = (λ q. omega (arith, i, q), rw (i, and-false (not (f.extended || f.remote))))
between n _ (starting f i b) = (λ q. omega (arith, i, q), rw (b, and-false))
between n _ (pausing f i b) = (λ q. omega (arith, i, q), rw (b, and-false))
between n _ (elsewhere f i a b) =
    (λ q. omega (arith, i, q), rw (ne_eqb (get_or f.bytes 1 0) 0 a, ne_eqb (get_or f.bytes 1 0) n b, and-false))

-- Stopped and a reset end a transfer.
pub ending : (a : Act) → Halts a → ends_transfer a ≡ true
ending _ stopping = refl
ending _ (resetting r) = refl

-- a transfer that has just begun, or none
abbrev Begun : Transfer → Type 0
Begun t = (t ≡ over) ⊎ ((1 ≤ t.name) × (t.name ≤ 3) × (t.segments ≡ 0))

begun_at : (index : ℕ) → Begun (startingAt index)
begun_at index =
    by From (eqb index 0x1008) (λ _. inr (omega arith, omega arith, refl))
    (λ _. by From (eqb index 0x1009) (λ _. inr (omega arith, omega arith, refl))
    (λ _. by From (eqb index 0x100A) (λ _. inr (omega arith, omega arith, refl)) (λ _. inl refl)))
  where
    From : ℕ → Type 0
    From k = Begun (record { name = k; segments = 0 })

begun_by : (d : Device) (o : Bool) (f : List ℕ) (x : Due) → First d o f x → Begun (answer f x).transfer
begun_by d o f none u = inl refl
begun_by d o f (value w n) u = begun_at (index_of f)
begun_by d o f (confirmation k n) u = inl refl
begun_by d o f (abort c) u = inl refl
begun_by d o f (upload b t) u = absurd u

-- A transfer of one of the three names, some of which is still to be sent.
pub record Running (h : Head) : Type 0 where
  pub least : 1 ≤ h.transfer.name
  pub most : h.transfer.name ≤ 3
  pub more : 7 * h.transfer.segments < (its h h.transfer.name).length
  pub live : is_live h.core ≡ true

abbrev pub Sound : Head → Type 0
Sound h = (h.transfer ≡ over) ⊎ Running h

pub runs_so : (h : Head) → Sound h → Runs h.transfer → Running h
runs_so h s u = ⊎_elim (λ e. absurd (u (ap (λ (t : Transfer). t.name) e))) (λ r. r) s

-- each name has 1 to 32 bytes
pub is_name_law : (h : Head) → Valid h → (k : ℕ) → is_name (its h k) ≡ true
is_name_law h v k =
    let i = h.core.device.identity in
    let a = both (is_name i.name && is_name i.hardware) (is_name i.software) v.device.identity.named in
    let b = both (is_name i.name) (is_name i.hardware) a.0 in
    each_name (λ n. is_name n ≡ true) i k (b.0, b.1, a.1)

pub name_long : (h : Head) → Valid h → (k : ℕ) → (1 ≤ (its h k).length) × ((its h k).length ≤ 32)
name_long h v k = (nameLaws.lengths (its h k)).0 (is_name_law h v k)

module _ (h : Head) (v : Valid h) (c : Call) where
  its_kept : (k : ℕ) → its (step h c) k ≡ its h k
  its_kept k = ap (λ (i : Identity). name_of i k) (identity_after (c ∷ []) h v)

  pub live_kept : (Halts (meant h c) → ⊥) → is_live h.core ≡ true → is_live (step h c).core ≡ true
  live_kept n l = rw (core_step h c) (stays_live h.core (meant h c) n l)

  -- the transfer after the call, by its two numbers
  running_as : (t : Transfer) → (step h c).transfer ≡ t → 1 ≤ t.name → t.name ≤ 3 → 7 * t.segments < (its h t.name).length
      → is_live (step h c).core ≡ true → Running (step h c)
  running_as t e l m n x =
      record {
        least = rw e l;
        most = rw e m;
        more = rw (e, its_kept t.name) n;
        live = x;
      }

  same_transfer : (step h c).transfer ≡ h.transfer → (Halts (meant h c) → ⊥) → Sound h → Sound (step h c)
  same_transfer e n s =
      ⊎_elim (λ o. inl (e ∙ o)) (λ r. inr (running_as h.transfer e r.least r.most r.more (live_kept n r.live))) s

-- A request that is served leaves the head live.
pub live_then : (h : Head) → Valid h → (f : Received) → Requests h f → is_live (step h (receive f)).core ≡ true
live_then h v f r =
    live_kept h v (receive f) (λ x. let k = halted h v (receive f) x in omega (arith, k.1.identifier, r.identifier)) r.live

-- What it leaves is sound, by whether it is a segment's.
module _ (h : Head) (v : Valid h) (s : Sound h) (f : Received) (r : Requests h f) where
  by_segment : Runs h.transfer → AsksSegment f.bytes → Sound (step h (receive f))
  by_segment u q =
      let t = h.transfer in
      let g = runs_so h s u in
      let x = in_transfer_law h f v r (λ _. g.most) in
      test (eqb (get_or f.bytes 0 0 / 16 % 2) (t.segments % 2))
      (λ e. test (leb (its h t.name).length (7 * suc t.segments))
      (λ l. inl (x.last u q (eqb-true _ _ e) (leb-true _ _ l)).transfer)
      (λ l. let n = leb-false _ _ l in
      inr (running_as h v (receive f) _ (x.goes_on u q (eqb-true _ _ e) n).transfer g.least g.most n (live_then h v f r))))
      (λ e. inl (x.wrong_toggle_law u q (eqb-false _ _ e)).transfer)

  by_list : (Runs h.transfer → AsksSegment f.bytes → ⊥) → Sound (step h (receive f))
  by_list n =
      let d = h.core.device in
      let o = is_in operational h.core in
      let t = (answer f.bytes (due d o f.bytes)).transfer in
      let e : (step h (receive f)).transfer ≡ t =
      left h f v r ∙ ap (λ (x : Due). (answer f.bytes x).transfer) (listed d o h.transfer f.bytes n) in
      ⊎_elim (λ z. inl (e ∙ z))
      (λ b. inr (running_as h v (receive f) t e b.0 b.1 (omega (arith, b.2, (name_long h v t.name).0)) (live_then h v f r)))
      (begun_by d o f.bytes (due d o f.bytes) (first d o f.bytes))

  by_request : Sound (step h (receive f))
  by_request =
      test (eqb h.transfer.name 0) (λ e. by_list (λ u _. u (eqb-true _ _ e)))
      (λ e. test (eqb (get_or f.bytes 0 0 / 32) 3) (λ q. by_segment (eqb-false _ _ e) (eqb-true _ _ q))
      (λ q. by_list (λ _. eqb-false _ _ q)))

module _ (h : Head) (v : Valid h) (s : Sound h) where
  by_frame : (f : Received) → is_asked h f ≡ false → Sound (step h (receive f))
  by_frame f a =
      test (ends_transfer (meant h (receive f))) (λ e. inl (rw (a, e)))
      (λ e. same_transfer h v (receive f) (rw (a, e)) (λ x. true_false (sym (ending (meant h (receive f)) x) ∙ e)) s)

  sound_step : (c : Call) → Sound (step h c)
  sound_step (receive f) = test (is_asked h f) (λ a. by_request h v s f (asked_so h f v a)) (by_frame f)
  sound_step tick = same_transfer h v tick refl (halted h v tick) s
  sound_step (sample x) = same_transfer h v (sample x) refl (halted h v (sample x)) s
  sound_step slot = same_transfer h v slot refl (halted h v slot) s

sound_after : (cs : List Call) (h : Head) → Valid h → Sound h → Sound (after h cs)
sound_after [] h v s = s
sound_after (c ∷ cs) h v s = sound_after cs (step h c) (valid_step h c v) (sound_step h v s c)

starts : (p : PowerUp) → (powered p).transfer ≡ over
starts = at_power_up (λ h. h.transfer ≡ over) (λ _ _. refl)

pub sound_from : (p : PowerUp) (cs : List Call) → Sound (after (powered p) cs)
sound_from p cs = sound_after cs (powered p) (valid_powered p) (inl (starts p))

sound : (h : Head) → Reachable h → Sound h
sound h r = rw r.so (sound_from r.start r.calls)

resets : (h : Head) (f : Received) (r : Reset) → Commands h f (to_reset r) → (step h (receive f)).transfer ≡ over
resets h f r m = rw (unasked h f (λ i. omega (arith, i, m.identifier)), commands h f m)

-- In Stopped no transfer runs.
none_stopped : (h : Head) → Sound h → is_in stopped h.core ≡ true → h.transfer ≡ over
none_stopped h s i =
    ⊎_elim (λ e. e)
    (λ r. true_false (sym r.live ∙ ap (λ (n : ℕ). eqb n 0x7F || eqb n 0x05) (eqb-true h.core.nmt.code 0x04 i)))
    s

stops : (h : Head) → Sound h → (f : Received) → Commands h f (to_enter stopped) → (step h (receive f)).transfer ≡ over
stops h s f m =
    rw (unasked h f (λ i. omega (arith, i, m.identifier)), commands h f m)
    (test (is_in stopped h.core) (λ i. rw i (none_stopped h s i)) (λ i. rw i))

pub transfers : Transfers
transfers =
    record {
      starts = starts;
      requests = λ h r f q. in_transfer_law h f (valid_reachable h r) q (λ u. (runs_so h (sound h r) u).most);
      resets = λ h _. resets h;
      stops = λ h r. stops h (sound h r);
      stays = λ h _. stays h;
      between = between;
      running = λ h r u. let g = runs_so h (sound h r) u in (g.most, g.more, g.live);
    }
