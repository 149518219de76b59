-- Proves `Starts` of specs/Starts.antt.
use Prim.Native.Nat.{ℕ, suc, ◌+◌, ◌<◌, ◌≤◌}
use native.Mathlib.Omega.{arith}
use lib.Dec.{eqb}
use lib.ListN.{length, get_or, get_or-map}
use mathlib.Core.Path.{◌≡◌, refl, sym, ap, subst, ◌∙◌}
use mathlib.Core.Bool.{Bool, true, false, not, ◌&&◌, cond}
use mathlib.Core.List.{List, [], ◌∷◌, map}
use mathlib.Core.Option.{some}
use mathlib.Core.Logic.{⊎_elim}
use borrow.Author.Tests.{le-ltb}
use Rattle.names.specs.declared.Transfer.{Transfer}
use Rattle.names.specs.Transfer.{no_transfer}
use Rattle.entries.specs.declared.Device.{Device}
use Rattle.entries.specs.declared.Identity.{Identity}
use Rattle.std.specs.Prelude.{Ok as At, Some as Number}
use Rattle.entries.specs.Table.{table, no_row, row_at, index, sub, width, lookup}
use Rattle.entries.proofs.Laws.{laws as entries-laws}
use Rattle.dictionary.specs.Reads.{shown, reads}
use Rattle.dictionary.specs.Accepted.{on}
use Rattle.dictionary.specs.Writes.{put}
use Rattle.dictionary.specs.Laws.{Shows}
use Rattle.dictionary.proofs.Columns.{at_place}
use Rattle.dictionary.proofs.Laws.{shows}
use Rattle.sdo.specs.Request.{index_of}
use Rattle.sdo.specs.Upload.{due_in}
use Rattle.sdo.specs.declared.reply.Effect.{Effect}
use Rattle.sdo.specs.declared.reply.Effect.TheVariants.{Nothing, Reply, Write}
use Rattle.sdo.specs.Reply.{carried_out}
use Rattle.waiting.specs.Line.{emergency, sdo_reply, has}
use Rattle.parts.specs.declared.Nmt.{Nmt}
use Rattle.parts.specs.declared.Answer.{Answer}
use Rattle.parts.specs.declared.Head.{Head}
use Rattle.promises.specs.States.{operational, is_in, live, communication, good, restored, started, started_core}
use Rattle.promises.specs.Calls.{Call, slot, step, no_identity}
use Rattle.promises.specs.Valid.{Valid}
use Rattle.promises.specs.Meant.{Requests, due_to}
use Rattle.promises.specs.Histories.{after, PowerUp, powered}
use Rattle.promises.specs.Service.{reply_due}
use Rattle.promises.specs.Resets.{HasBooted}
use Rattle.promises.specs.Gap.{is_taken, node_of}
use Rattle.promises.specs.Readings.{reads_in, due_shown}
use Rattle.promises.specs.Codes.{All}
use Rattle.promises.specs.Demand1.{BadNode}
use Rattle.promises.specs.Starts.{refused_identity, identity_of, Line, first_reads, first_lines, reading, Reads, Starts}
use Rattle.promises.proofs.Valid.{valid_step}
use Rattle.promises.proofs.Meant.{core_step, resets}
use Rattle.promises.proofs.Altered.{Altered, heard, timed, sent, refused, took, lost, restarted, served, altered}
use Rattle.promises.proofs.Kept.{saved_after}
use Rattle.promises.proofs.Readings.{read_due_law}
use Rattle.promises.proofs.Histories.{valid_powered}
use Rattle.promises.proofs.Refusals.{by_power_up}
use Rattle.promises.proofs.Demand1.{demand1}
use Rattle.promises.proofs.SameNode.{node_step, node_after, node_powered}
use Rattle.promises.proofs.NetworkStates.{network_states}
use Rattle.promises.proofs.Resets.{save_and_reset}

-- equal columns are equal at each place
same_at : {A B C : Type 0} (f : A → C) (g : B → C) (l : List A) (m : List B) (a : A) (b : B) (p : ℕ) → f a ≡ g b → map f l ≡ map g m
    → f (get_or l p a) ≡ g (get_or m p b)
same_at f g l m a b p e c =
    sym (get_or-map f l p a) ∙ ap (λ x. get_or (map f l) p x) e ∙ ap (λ k. get_or k p (g b)) c ∙ get_or-map g m p b

-- a property at each place is a property of each element
all_at : {A : Type 0} (P : A → Type 0) (l : List A) (a : A) → ((k : ℕ) → k < length l → P (get_or l k a)) → All P l
all_at P [] a f = tt
all_at P (x ∷ xs) a f = (f 0 (omega arith), all_at P xs a (λ k e. f (suc k) (omega (arith, e))))

module _ (n : ℕ) (i : Identity) where
  abbrev d : Device
  d = (started_core n i).device

  abbrev no_line : Line
  no_line = (0, 0, 0, Number 0)

  abbrev line : ℕ → Line
  line k = get_or (first_reads n i) k no_line

  all_of_them : map {B = ℕ × ℕ × ℕ} (λ l. (l.0, l.1, l.2)) (first_reads n i) ≡ map (λ r. (index r, sub r, width r)) table
  unfolding table
  all_of_them = refl

  columns : map (λ r. shown d false r) table ≡ map (λ l. l.3) (first_reads n i)
  unfolding table shown
  columns = refl

  -- the line at a place, and the table's row there
  row_at_law : (k : ℕ) → ((line k).0 ≡ index (row_at k)) × ((line k).1 ≡ sub (row_at k)) × ((line k).2 ≡ width (row_at k))
  row_at_law k =
      let e : ◌≡◌ {A = ℕ × ℕ × ℕ} ((line k).0, (line k).1, (line k).2) (index (row_at k), sub (row_at k), width (row_at k)) =
      same_at {C = ℕ × ℕ × ℕ} (λ l. (l.0, l.1, l.2)) (λ r. (index r, sub r, width r)) (first_reads n i) table no_line no_row k refl
      all_of_them in
      (ap (λ t. t.0) e, ap (λ t. t.1) e, ap (λ t. t.2) e)

  found : (k : ℕ) → k < length table → lookup (line k).0 (line k).1 ≡ At (row_at k)
  found k l =
      let r = row_at_law k in
      ((entries-laws.finds (line k).0 (line k).1).at (row_at k)).1 (((k, (l, refl)), sym r.0), sym r.1)

  shown_at : (k : ℕ) → shown d false (row_at k) ≡ (line k).3
  unfolding shown
  shown_at k = same_at (λ r. shown d false r) (λ l. l.3) table (first_reads n i) no_row no_line k refl columns

  as_many : length (first_reads n i) ≡ length table
  unfolding table
  as_many = refl

  -- its index is read from the request's bytes
  indices : map (λ l. index_of (reading n l.0 l.1).bytes) (first_reads n i) ≡ map (λ l. l.0) (first_reads n i)
  indices = refl

  module _ (k : ℕ) (l : k < length (first_reads n i)) where
    stands : lookup (line k).0 (line k).1 ≡ At (row_at k)
    stands = found k (rw as_many at l)

    entry_reads : reads d false (line k).0 (line k).1 ≡ some (line k).3
    entry_reads = shows d false (line k).0 (line k).1 stands (shown_at k)

    entry_due_law : (t : Transfer) → due_in d false t (reading n (line k).0 (line k).1).bytes ≡ due_shown (line k).2 (line k).3
    entry_due_law t =
        let f = (reading n (line k).0 (line k).1).bytes in
        let its-index : index_of f ≡ (line k).0 =
        at_place (λ l. index_of (reading n l.0 l.1).bytes) (λ l. l.0) (first_reads n i) no_line k refl indices in
        read_due_law d false t f (row_at k) refl (ap (λ x. lookup x (line k).1) its-index ∙ stands)
        ∙ ap (due_shown (width (row_at k))) (shown_at k)
        ∙ ap (λ w. due_shown w (line k).3) (sym (row_at_law k).2)

    -- the same once the boot-up frame is sent
    booted_due : let f = reading n (line k).0 (line k).1 in due_to (step (started n i) slot) f ≡ due_shown (line k).2 (line k).3
    booted_due =
        let f = reading n (line k).0 (line k).1 in
        ap (λ c. due_in c.device (is_in operational c) no_transfer f.bytes) (core_step (started n i) slot) ∙ entry_due_law no_transfer

-- node and identity of a power-up that is refused are 1 and zeros
pub powered_is : (p : PowerUp) → powered p ≡ started (node_of p) (identity_of p)
powered_is p = by_power_up (λ (a : Answer). a.head) p.number p.identity refl ∙ chosen (is_taken p)
  where
    chosen : (t : Bool)
        → cond t (started p.number p.identity) (started 1 no_identity)
        ≡ started (cond t p.number 1) (cond t p.identity refused_identity)
    chosen true = refl
    chosen false = refl

lines : (p : PowerUp) → All (Reads p) (first_lines p)
lines p =
    let n : ℕ = node_of p in
    let i : Identity = identity_of p in
    let e = powered_is p in
    all_at (Reads p) (first_lines p) (no_line n i)
    (λ k l.
    record {
      entry = ap (λ h. reads_in h (line n i k).0 (line n i k).1) e ∙ entry_reads n i k l;
      due = ap (λ h. due_to (step h slot) (reading n (line n i k).0 (line n i k).1)) e ∙ booted_due n i k l;
    })

asked : (p : PowerUp) (i j : ℕ) → Requests (step (powered p) slot) (reading (node_of p) i j)
asked p i j =
    let h : Head = powered p in
    let b : HasBooted h (step h slot) =
    save_and_reset.boots h (demand1.starts p) (ap (λ (s : Nmt). eqb s.code 0x00) (network_states.starts p)) in
    let low : node_of p ≤ 127 = subst (λ n. n ≤ 127) (node_powered p) (valid_powered p).device.node_high in
    record {
      hears =
          record {
            unrefused = rw (le-ltb 0x7FF (0x600 + node_of p) (omega (arith, low)));
            heard = ap (λ (s : Nmt). eqb s.code 0x00) b.nmt;
          };
      identifier = ap (λ n. 0x600 + n) (sym (node_step h (valid_powered p) slot ∙ node_powered p));
      length = refl;
      live = ap live b.nmt;
      free = ap (has sdo_reply) b.line ∙ none_waits (on (communication h.core).emergency && not (good h.core));
    }
  where
    none_waits : (t : Bool) → has sdo_reply (cond t (emergency ∷ []) []) ≡ false
    none_waits true = refl
    none_waits false = refl

pub saved_is : (p : PowerUp) → (powered p).core.device.saved ≡ (powered p).core.device.settings
saved_is p = let e = powered_is p in ap (λ (h : Head). h.core.device.saved) e ∙ sym (ap (λ (h : Head). h.core.device.settings) e)

-- No request alters the identity, nor does any call.
identity_carried : (d : Device) (e : Effect) → (carried_out d e).identity ≡ d.identity
unfolding put
identity_carried d Nothing = refl
identity_carried d Reply = refl
identity_carried d (Write k v) = refl

identity_by : (h : Head) (c : Call) (d : Device) → Altered h c d → d.identity ≡ h.core.device.identity
identity_by h _ _ (heard f) = refl
identity_by h _ _ timed = refl
identity_by h _ _ sent = refl
identity_by h _ _ (refused r b) = refl
identity_by h _ _ (took r b) = refl
identity_by h _ _ lost = refl
identity_by h _ _ (restarted f r x) = refl
identity_by h _ _ (served f x) = identity_carried h.core.device (reply_due h f).effect

pub identity_after : (cs : List Call) (h : Head) → Valid h → (after h cs).core.device.identity ≡ h.core.device.identity
identity_after [] h v = refl
identity_after (c ∷ cs) h v = identity_after cs (step h c) (valid_step h c v) ∙ identity_by h c (step h c).core.device (altered h v c)

pub same_identity : (p : PowerUp) (cs : List Call) → (after (powered p) cs).core.device.identity ≡ identity_of p
same_identity p cs = identity_after cs (powered p) (valid_powered p) ∙ ap (λ (h : Head). h.core.device.identity) (powered_is p)

-- 1018-1..4
identity_shown : (d : Device) (o : Bool) → let i = d.identity in
    Shows d o 0x1018 1 (Number i.vendor) × Shows d o 0x1018 2 (Number i.product) × Shows d o 0x1018 3 (Number i.revision)
    × Shows d o 0x1018 4 (Number i.serial)
unfolding table lookup shown
identity_shown d o =
    (shows d o 0x1018 1 refl refl, shows d o 0x1018 2 refl refl, shows d o 0x1018 3 refl refl, shows d o 0x1018 4 refl refl)

badly : (n : ℕ) → (1 ≤ n) × (n ≤ 127) → BadNode n → ⊥
badly n f b = ⊎_elim (λ l. omega (arith, l, f.0)) (λ l. omega (arith, l, f.1)) b

pub starts : Starts
starts =
    record {
      all_of_them = all_of_them;
      reads = lines;
      asked = asked;
      saved = saved_is;
      restores = λ p cs n f r m.
          let h : Head = after (powered p) cs in
          (resets h f r m).settings
          ∙ ap (restored r h.core.device.settings) (saved_after (powered p) (valid_powered p) cs n ∙ saved_is p);
      same_identity = same_identity;
      refused = λ p bad cs.
          let taken = (demand1.takes_node p.number p.identity).0 in
          let e : powered p ≡ started 1 no_identity =
          demand1.node_refused p.number p.identity
          (λ z. ⊎_elim (λ b. badly p.number (taken z).0 b) (λ b. b (taken z).1) bad) in (
            node_after (powered p) (valid_powered p) cs ∙ ap (λ (h : Head). h.core.device.node) e,
            identity_after cs (powered p) (valid_powered p) ∙ ap (λ (h : Head). h.core.device.identity) e,
          );
      identity_read = λ p cs.
          let h : Head = after (powered p) cs in
          let s = identity_shown h.core.device (is_in operational h.core) in
          let e = same_identity p cs in (
            s.0 ∙ ap (λ (i : Identity). some (Number i.vendor)) e,
            s.1 ∙ ap (λ (i : Identity). some (Number i.product)) e,
            s.2 ∙ ap (λ (i : Identity). some (Number i.revision)) e,
            s.3 ∙ ap (λ (i : Identity). some (Number i.serial)) e,
          );
    }
