-- Proves `NamesRead` of specs/NamesRead.antt: what arrives is the reply that the request made,
-- and the segments that arrive make up the name.
use Prim.Native.Nat.{ℕ, zero, suc, ◌+◌, ◌*◌, ◌/◌, ◌%◌, ◌<◌, ◌≤◌}
use native.Mathlib.Omega.{arith}
use lib.Dec.{eqb, leb}
use lib.ListN.{length, get_or, drop}
use lib.Seq.{length-take-le}
use mathlib.Core.Path.{◌≡◌, refl, sym, ap, subst, ◌∙◌}
use mathlib.Core.Logic.{◌⊎◌, inl, inr, ⊎_elim, ⊎_map}
use mathlib.Core.Bool.{Bool, true, false, ◌&&◌}
use mathlib.Core.List.{List, [], ◌∷◌, ◌++◌}
use borrow.Author.Tests.{eqb-true, eqb-false, eq-eqb, ne_eqb, leb-true, leb-false}
use Rattle.cases.proofs.Cases.{by, test, either}
use Rattle.can.specs.declared.Frame.{Frame}
use Rattle.can.specs.declared.Received.{Received}
use Rattle.can.specs.Number.{low_first}
use Rattle.names.specs.declared.Name.{Name}
use Rattle.names.specs.declared.Transfer.{Transfer}
use Rattle.names.specs.Name.{text}
use Rattle.names.specs.Segment.{segment_of}
use Rattle.names.specs.Laws.{first, contents, Sending}
use Rattle.names.specs.Laws as names
use Rattle.names.proofs.Laws.{laws as nameLaws}
use Rattle.entries.specs.declared.Identity.{Identity}
use Rattle.entries.specs.Identity.{name_of}
use Rattle.dictionary.proofs.Names.{arrays_are}
use Rattle.sdo.specs.Request.{aborting}
use Rattle.sdo.specs.Exactly.{Reads}
use Rattle.sdo.specs.UploadLaws.{AsksName, Runs}
use Rattle.parts.specs.declared.Head.{Head}
use Rattle.promises.specs.States.{is_live, node}
use Rattle.promises.specs.WaitingLine.{sdo_reply}
use Rattle.promises.specs.Calls.{Call, receive, tick, sample, slot, step, slot_answer, is_frame, frame_in}
use Rattle.promises.specs.Valid.{waits, Valid}
use Rattle.promises.specs.Meant.{Requests}
use Rattle.promises.specs.Histories.{after, frames, sent, PowerUp, powered}
use Rattle.promises.specs.Service.{reply_frame, sends_reply}
use Rattle.promises.specs.Gap.{node_of}
use Rattle.promises.specs.Codes.{All}
use Rattle.promises.specs.Transfers.{its, Between, InTransfer}
use Rattle.promises.specs.NamesRead.{Among, Exchange, SegmentExchange, Receives, last, more, Asks, Meanwhile, given, NamesRead}
use Rattle.promises.proofs.Valid.{valid_step}
use Rattle.promises.proofs.Histories.{valid_after, valid_powered}
use Rattle.promises.proofs.SameNode.{node_step, node_after, node_powered}
use Rattle.promises.proofs.Service.{gets_what_is_due}
use Rattle.promises.proofs.Owed.{replied_waits, replies_first}
use Rattle.promises.proofs.Codes.{asks as served}
use Rattle.promises.proofs.Starts.{identity_after, same_identity}
use Rattle.promises.proofs.Transfers.{no_abort, live_then, is_name_law, name_long, in_transfer_law, sound_from, runs_so}
use Rattle.promises.proofs.Arrivals.{transfer_stays, live_stays, reply_stays, reply_arrives}

-- One call between a request and its reply.
module _ (n : ℕ) (h : Head) (e : node h.core ≡ n) where
  -- a reply that a slot sends has the bytes that the last request made
  sent_reply : (reply : List ℕ) → Valid h → is_frame (slot_answer h) ≡ true → reply_frame n reply ≡ frame_in (slot_answer h)
      → reply ≡ h.core.reply
  sent_reply reply v w q =
      let same : (frame_in (slot_answer h)).identifier ≡ 0x580 + node h.core =
      sym (ap (λ (f : Frame). f.identifier) q) ∙ ap (λ (m : ℕ). 0x580 + m) (sym e) in
      let s : sends_reply h ≡ true =
      ap (λ (t : Bool). t && eqb (frame_in (slot_answer h)).identifier (0x580 + node h.core)) w ∙ eq-eqb _ _ same in
      ap (λ (f : Frame). f.bytes) (q ∙ (replies_first h v s).0.answer)

-- A reply that is sent among the calls between is the one that waited.
module _ (n : ℕ) (reply : List ℕ) where
  abbrev Arrives : List Frame → Type 0
  Arrives fs = Among (reply_frame n reply) fs

  by_call : (c : Call) (h : Head) → Valid h → node h.core ≡ n → (fs : List Frame) → Arrives (frames h c ++ fs)
      → (reply ≡ h.core.reply) ⊎ Arrives fs
  by_call (receive f) h v e fs a = inr a
  by_call tick h v e fs a = inr a
  by_call (sample s) h v e fs a = inr a
  by_call slot h v e fs a =
      by (λ (l : List Frame). Arrives (l ++ fs) → (reply ≡ h.core.reply) ⊎ Arrives fs) (is_frame (slot_answer h))
      (λ w. ⊎_map (sent_reply n h e reply v w) (λ x. x)) (λ _. inr) a

  arrived : (cs : List Call) (h : Head) → Valid h → node h.core ≡ n → All (Between n) cs → Arrives (sent h cs) → reply ≡ h.core.reply
  arrived [] h v e b a = absurd a
  arrived (c ∷ cs) h v e b a =
      ⊎_elim (λ x. x)
      (λ x. arrived cs (step h c) (valid_step h c v) (node_step h v c ∙ e) b.1 x ∙ reply_stays n (c ∷ []) h v e (b.0, tt))
      (by_call c h v e (sent (step h c) cs) a)

-- A request and its reply.
module _ {n : ℕ} {h : Head} {f : Received} {cs : List Call} {reply : List ℕ} (v : Valid h) (e : node h.core ≡ n)
    (x : Exchange n h f cs reply) where
  reply_is : reply ≡ (step h (receive f)).core.reply
  reply_is = arrived n reply cs (step h (receive f)) (valid_step h (receive f) v) (node_step h v (receive f) ∙ e) x.between x.arrives

  transfer_is : (after (step h (receive f)) cs).transfer ≡ (step h (receive f)).transfer
  transfer_is = transfer_stays n cs (step h (receive f)) (valid_step h (receive f) v) (node_step h v (receive f) ∙ e) x.between

-- a head that has answered k segments of its name j, which is this
record At (n j : ℕ) (name : Name) (h : Head) (k : ℕ) : Type 0 where
  pub valid : Valid h
  pub node_is : node h.core ≡ n
  pub least : 1 ≤ j
  pub most : j ≤ 3
  pub its_name : its h j ≡ name
  pub transfer : h.transfer ≡ record { name = j; segments = k }
  pub sending : Sending name k

-- no call alters a name
same_name : (h : Head) → Valid h → (cs : List Call) (j : ℕ) → its (after h cs) j ≡ its h j
same_name h v cs j = ap (λ (i : Identity). name_of i j) (identity_after cs h v)

module _ {n j k : ℕ} {name : Name} {h : Head} {f : Received} {cs : List Call} {reply : List ℕ} (a : At n j name h k)
    (s : SegmentExchange n k h f cs reply) where
  laws : names.Segment name k
  laws = nameLaws.segments name k a.sending

  runs : Runs h.transfer
  runs z = omega (arith, z, ap (λ (t : Transfer). t.name) a.transfer, a.least)

  here : InTransfer h f
  here =
      in_transfer_law h f a.valid s.exchange.served
      (λ _. omega (arith, ap (λ (t : Transfer). t.name) a.transfer, a.most))

  toggled : get_or f.bytes 0 0 / 16 % 2 ≡ h.transfer.segments % 2
  toggled = s.toggle ∙ ap (λ (t : Transfer). t.segments % 2) (sym a.transfer)

  -- the transfer's name is this
  long : (its h h.transfer.name).length ≡ name.length
  long = ap (λ (t : Transfer). (its h t.name).length) a.transfer ∙ ap (λ (m : Name). m.length) a.its_name

  so_far : h.transfer.segments ≡ k
  so_far = ap (λ (t : Transfer). t.segments) a.transfer

  -- the reply is the segment, whether or not it is the last
  made : (step h (receive f)).core.reply ≡ segment_of (its h h.transfer.name) h.transfer.segments
  made =
      test (leb (its h h.transfer.name).length (7 * suc h.transfer.segments))
      (λ l. (here.last runs s.asks toggled (leb-true _ _ l)).reply)
      (λ l. (here.goes_on runs s.asks toggled (leb-false _ _ l)).reply)

  segment_is : reply ≡ segment_of name k
  segment_is =
      reply_is a.valid a.node_is s.exchange ∙ made
      ∙ ap (λ (t : Transfer). segment_of (its h t.name) t.segments) a.transfer
      ∙ ap (λ (m : Name). segment_of m k) a.its_name

  -- bit 0 of the reply says whether it is the last
  says_last : first reply % 2 ≡ 1 → name.length ≤ 7 * suc k
  says_last b = laws.last.0 (rw segment_is at b)

  says_more : first reply % 2 ≡ 0 → 7 * suc k < name.length
  says_more b =
      test (leb name.length (7 * suc k))
      (λ l. absurd (omega (arith, laws.last.1 (leb-true _ _ l), ap (λ (r : List ℕ). first r % 2) segment_is, b)))
      (leb-false name.length (7 * suc k))

  says_not : 7 * suc k < name.length → first reply % 2 ≡ 0
  says_not m =
      test (eqb (first reply % 2) 1)
      (λ t. absurd (omega (arith, says_last (eqb-true _ _ t), m)))
      (λ t. omega (arith, eqb-false (first reply % 2) 1 t))

  next : 7 * suc k < name.length → At n j name (after (step h (receive f)) cs) (suc k)
  next m =
      let g = receive f ∷ cs in
      let left = here.goes_on runs s.asks toggled (omega (arith, so_far, long, m)) in
      record {
        valid = valid_after h g a.valid;
        node_is = node_after h a.valid g ∙ a.node_is;
        least = a.least;
        most = a.most;
        its_name = same_name h a.valid g j ∙ a.its_name;
        transfer =
            transfer_is a.valid a.node_is s.exchange ∙ left.transfer
            ∙ ap {B = Transfer} (λ (t : Transfer). record { name = t.name; segments = suc t.segments }) a.transfer;
        sending = record { array = a.sending.array; name = a.sending.name; more = m };
      }

-- The segments from this one on carry what is left of the name.
receives : {n j k : ℕ} {name : Name} {h : Head} {data-received : List ℕ} → Receives n h k data-received → At n j name h k
    → data-received ≡ drop (7 * k) (text name)
receives (last f cs reply s b) a = ap contents (segment_is a s) ∙ (laws a s).ends (says_last a s b)
receives {k = k} {name = name} (more {rest = rest} f cs reply s b r) a =
    ap (λ (l : List ℕ). contents l ++ rest) (segment_is a s)
    ∙ ap (λ (l : List ℕ). contents (segment_of name k) ++ l) (receives r (next a s (says_more a s b)))
    ∙ (laws a s).goes_on

-- The first request for name k.
module _ (p : PowerUp) (before : List Call) (k : ℕ) (f : Received) (cs : List Call) (reply : List ℕ) (q : Reads f.bytes)
    (a : AsksName k f.bytes) (x : Exchange (node_of p) (after (powered p) before) f cs reply) where
  abbrev h : Head
  h = after (powered p) before

  v : Valid h
  v = valid_after (powered p) before (valid_powered p)

  same_node : node h.core ≡ node_of p
  same_node = node_after (powered p) (valid_powered p) before ∙ node_powered p

  is_given : its h k ≡ given p k
  is_given = ap (λ (i : Identity). name_of i k) (same_identity p before)

  array : length (given p k).bytes ≡ 32
  array = ap (λ (m : Name). length m.bytes) (sym is_given) ∙ arrays_are h.core.device.identity k v.device.identity.fits.arrays

  bounds : (1 ≤ (given p k).length) × ((given p k).length ≤ 32)
  bounds = rw is_given at (name_long h v k)

  asked : InTransfer h f
  asked = in_transfer_law h f v x.served (λ u. (runs_so h (sound_from p before) u).most)

  announced : let b = f.bytes in
      reply ≡ 0x41 ∷ get_or b 1 0 ∷ get_or b 2 0 ∷ get_or b 3 0 ∷ low_first 4 (length (text (given p k)))
  announced =
      let b = f.bytes in
      let size : (its h k).length ≡ length (text (given p k)) =
      ap (λ (m : Name). m.length) is_given ∙ sym (length-take-le _ _ (omega (arith, array, bounds.1))) in
      reply_is v same_node x ∙ (asked.begins k q a).reply
      ∙ ap (λ (m : ℕ). 0x41 ∷ get_or b 1 0 ∷ get_or b 2 0 ∷ get_or b 3 0 ∷ low_first 4 m) size

  begun : At (node_of p) k (given p k) (after (step h (receive f)) cs) 0
  begun =
      let g = receive f ∷ cs in
      record {
        valid = valid_after h g v;
        node_is = node_after h v g ∙ same_node;
        least = a.least;
        most = a.most;
        its_name = same_name h v g k ∙ is_given;
        transfer = transfer_is v same_node x ∙ (asked.begins k q a).transfer;
        sending = record { array = array; name = rw is_given at (is_name_law h v k); more = omega (arith, bounds.0) };
      }

-- The reply to a request that is served arrives, and then the head serves again.
module _ (n : ℕ) (h : Head) (v : Valid h) (e : node h.core ≡ n) (f : Received) (r : Requests h f) (a : aborting f.bytes ≡ false)
    (cs : List Call) (m : Meanwhile n cs) where
  arriving : Among (reply_frame n (step h (receive f)).core.reply) (sent (step h (receive f)) cs)
      × (waits (after (step h (receive f)) cs) sdo_reply ≡ false)
  arriving =
      reply_arrives n cs (step h (receive f)) (valid_step h (receive f) v) (node_step h v (receive f) ∙ e)
      (replied_waits h f (gets_what_is_due h f v r a)) m

  arrives : Exchange n h f cs (step h (receive f)).core.reply
  arrives = record { served = r; between = m.between; arrives = arriving.0 }

  live_again : is_live (after (step h (receive f)) cs).core ≡ true
  live_again =
      live_stays n cs (step h (receive f)) (valid_step h (receive f) v) (node_step h v (receive f) ∙ e) m.between (live_then h v f r)

-- a client's requests for the segments of this name, and the calls between them
module _ (n j : ℕ) (name : Name) (request : ℕ → Received) (between : ℕ → List Call) (asks : (k : ℕ) → Asks n k (request k))
    (meanwhile : (k : ℕ) → Meanwhile n (between k)) where
  -- a head that serves the next of them
  record Ready (h : Head) (k : ℕ) : Type 0 where
    pub at : At n j name h k
    pub live : is_live h.core ≡ true
    pub free : waits h sdo_reply ≡ false

  module _ {h : Head} {k : ℕ} (r : Ready h k) where
    requests : Requests h (request k)
    requests =
        let q = asks k in
        let x = h.core.nmt.code in
        let state : (x ≡ 0x7F) ⊎ (x ≡ 0x05) =
        either (eqb x 0x7F) (eqb x 0x05) r.live (λ t. inl (eqb-true _ _ t)) (λ t. inr (eqb-true _ _ t)) in
        served n x h (request k) r.at.node_is refl (omega (arith, r.at.valid.device.node_high, r.at.node_is))
        (record { of_11_bits = q.of_11_bits; is_data = q.is_data; identifier = q.identifier; length = q.length; state = state })
        r.free

    unaborted : aborting (request k).bytes ≡ false
    unaborted = no_abort (request k) 3 refl (asks k).asks

    segment : SegmentExchange n k h (request k) (between k) (step h (receive (request k))).core.reply
    segment =
        record {
          exchange = arrives n h r.at.valid r.at.node_is (request k) requests unaborted (between k) (meanwhile k);
          asks = (asks k).asks;
          toggle = (asks k).toggle;
        }

    ready_next : 7 * suc k < name.length → Ready (after (step h (receive (request k))) (between k)) (suc k)
    ready_next m =
        record {
          at = next r.at segment m;
          live = live_again n h r.at.valid r.at.node_is (request k) requests unaborted (between k) (meanwhile k);
          free = (arriving n h r.at.valid r.at.node_is (request k) requests unaborted (between k) (meanwhile k)).1;
        }

  -- with at most `left` segments left
  reads_on : (left : ℕ) {h : Head} {k : ℕ} → name.length ≤ 7 * (left + k) → Ready h k → Receives n h k (drop (7 * k) (text name))
  reads_on zero {h} {k} l r = absurd (omega (arith, l, r.at.sending.more))
  reads_on (suc left) {h} {k} l r =
      let s = segment r in
      let is = segment_is r.at s in
      let law = laws r.at s in
      test (leb name.length (7 * suc k))
      (λ t. let e = leb-true _ _ t in
      subst (Receives n h k) (ap contents is ∙ law.ends e)
      (last (request k) (between k) _ s (ap (λ (b : List ℕ). first b % 2) is ∙ law.last.1 e)))
      (λ t. let e = leb-false _ _ t in
      subst (Receives n h k) (ap (λ (b : List ℕ). contents b ++ drop (7 * suc k) (text name)) is ∙ law.goes_on)
      (more (request k) (between k) _ s (says_not r.at s e) (reads_on left (omega (arith, l)) (ready_next r e))))

module _ (p : PowerUp) (before : List Call) where
  abbrev from : Head
  from = after (powered p) before

  is_valid : Valid from
  is_valid = valid_after (powered p) before (valid_powered p)

  is_node : node from.core ≡ node_of p
  is_node = node_after (powered p) (valid_powered p) before ∙ node_powered p

  whole : (k : ℕ) (f : Received) (cs : List Call) → Reads f.bytes → AsksName k f.bytes → Requests from f → Meanwhile (node_of p) cs
      → (request : ℕ → Received) (between : ℕ → List Call)
      → ((j : ℕ) → Asks (node_of p) j (request j)) → ((j : ℕ) → Meanwhile (node_of p) (between j))
      → Receives (node_of p) (after (step from (receive f)) cs) 0 (text (given p k))
  whole k f cs q a r m request between asks meanwhile =
      let n = node_of p in
      let u = no_abort f 2 refl q in
      let x = arrives n from is_valid is_node f r u cs m in
      let here = begun p before k f cs _ q a x in
      reads_on n k (given p k) request between asks meanwhile 32 (omega (arith, (bounds p before k f cs _ q a x).1))
      (record {
        at = here;
        live = live_again n from is_valid is_node f r u cs m;
        free = (arriving n from is_valid is_node f r u cs m).1;
      })

pub names_read : NamesRead
names_read =
    record {
      announced = announced;
      exactly = λ p before k f cs reply q a x d r. receives r (begun p before k f cs reply q a x);
      each_arrives = λ p before f cs r n m. arrives (node_of p) _ (is_valid p before) (is_node p before) f r (ne_eqb _ _ n) cs m;
      whole = whole;
    }
