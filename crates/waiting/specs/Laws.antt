-- Laws of the waiting line: 01, chapter "The waiting line".
-- `Lines`: what one join, one withdrawal and one slot do to it.
-- `Laws`: what holds after every call, for any number n of kinds. There is
-- room, the places hold the line, the order is kept, and it is known who waits.
-- `InTurn`: kinds that are due in one call join in the order given.
use Rattle.std.specs.Prelude.{ℕ, ◌<◌, ◌≤◌, ◌≡◌, ◌↔◌, Bool, true, false, not, ◌&&◌, ◌||◌, cond, List, [], ◌∷◌, ◌++◌, eqb, length, drop}
use Rattle.cases.specs.Padded.{pad}
use Rattle.waiting.specs.Line.{places, emergency, sdo_reply, heartbeat, tpdo1, tpdo2, order, has, Kinds, join, withdraw, first}
use Rattle.waiting.specs.Places.{join_in, withdraw_in, taken_in, waiting, Holds}
use Rattle.waiting.specs.Calls.{after, joins_in, after_in, if_due, those_due, flagged, Named}

pub record Lines : Type 0 where
  -- a kind waits exactly if it stands in the line
  pub stands : (k : ℕ) (ws : List ℕ) → has k ws ≡ true ↔ (a : List ℕ) × (b : List ℕ) × (ws ≡ a ++ k ∷ b)
  -- A kind joins at the end; one that waits already keeps its place.
  pub at_the_end : (k : ℕ) (ws : List ℕ) → has k ws ≡ false → join ws k ≡ ws ++ k ∷ []
  pub keeps_its_place : (k : ℕ) (ws : List ℕ) → has k ws ≡ true → join ws k ≡ ws
  -- A withdrawal takes a kind; the others stay, in their order.
  pub goes : (k : ℕ) (a b : List ℕ) → has k a ≡ false → has k b ≡ false → withdraw (a ++ k ∷ b) k ≡ a ++ b
  pub none_goes : (k : ℕ) (ws : List ℕ) → has k ws ≡ false → withdraw ws k ≡ ws
  -- A slot sends the first.
  pub sends : (k : ℕ) (ws : List ℕ) → first (k ∷ ws) ≡ k
  pub sends_none : first [] ≡ 0

-- some of a list, in its order
pub data Among : List ℕ → List ℕ → Type 0 where
  end : Among [] []
  skip : {x : ℕ} {xs ys : List ℕ} → Among xs ys → Among xs (x ∷ ys)
  keep : {x : ℕ} {xs ys : List ℕ} → Among xs ys → Among (x ∷ xs) (x ∷ ys)

-- After a call the line has first the kinds that stayed, in the order in which they waited, and then those that came, in the order
-- in which they joined.
pub record InOrder (slot : Bool) (out into ws : List ℕ) : Type 0 where
  pub stayed : List ℕ
  pub came : List ℕ
  pub line : after slot out into ws ≡ stayed ++ came
  pub waited : Among stayed ws
  pub joined : Among came into
  -- all stay but the one that is sent and those that are withdrawn
  pub stays : (k : ℕ) → has k stayed ≡ (not (has k out) && has k (cond slot (drop 1 ws) ws))
  -- one that waits already does not come
  pub new : (k : ℕ) → has k came ≡ true → has k stayed ≡ false

pub record Laws (n : ℕ) : Type 0 where
  -- kinds 1 to n wait, each at most once
  pub once : (k : ℕ) (a b : List ℕ) → Kinds n (a ++ k ∷ b) → (0 < k) × (k ≤ n) × (has k a ≡ false) × (has k b ≡ false)
  -- so that a kind that does not wait finds room in n places
  pub room : (k : ℕ) (ws : List ℕ) → Kinds n ws → 0 < k → k ≤ n → has k ws ≡ false → length ws < n
  -- what the code does to the places happens to the line that they hold
  pub none : Holds n (pad n []) []
  pub joins : {l ws : List ℕ} (k : ℕ) → 0 < k → k ≤ n → Holds n l ws → Holds n (join_in l k) (join ws k)
  pub withdraws : {l ws : List ℕ} (k : ℕ) → Holds n l ws → Holds n (withdraw_in l k) (withdraw ws k)
  pub taken : {l ws : List ℕ} → Holds n l ws → Holds n (taken_in l) (drop 1 ws)
  pub first_of_law : {l ws : List ℕ} → Holds n l ws → first l ≡ first ws
  -- no frame is sent only if none waits
  pub idle : {l ws : List ℕ} → Holds n l ws → first l ≡ 0 → ws ≡ []
  pub waits : {l ws : List ℕ} (k : ℕ) → 0 < k → Holds n l ws → has k l ≡ has k ws
  pub all : {l ws : List ℕ} → Holds n l ws → waiting l ≡ ws
  -- a call leaves a proper line, in the places too
  pub holds : {l ws : List ℕ} (slot : Bool) (out into : List ℕ) → Named n into → Holds n l ws
      → Holds n (after_in slot out into l) (after slot out into ws)
  -- those that waited and stay keep their order, and those that come stand behind them in their own order
  pub in_order : (slot : Bool) (out into ws : List ℕ) → InOrder slot out into ws
  -- a kind waits after a call exactly if it joined, or waited and was neither withdrawn nor sent
  pub waits_after : (slot : Bool) (out into ws : List ℕ) (k : ℕ) → Kinds n ws
      → has k (after slot out into ws) ≡ (has k into || (not (has k out) && (not (slot && eqb (first ws) k) && has k ws)))

pub record InTurn : Type 0 where
  -- Five kinds can wait: emergency, SDO reply, heartbeat, TPDO1, TPDO2. Several joining in one call join in the order just given.
  pub five : places ≡ 5
  pub numbered : (emergency ≡ 1) × (sdo_reply ≡ 2) × (heartbeat ≡ 3) × (tpdo1 ≡ 4) × (tpdo2 ≡ 5)
  pub in_this_order : order ≡ 1 ∷ 2 ∷ 3 ∷ 4 ∷ 5 ∷ []
  -- they keep the list's order
  pub among : (due : ℕ → Bool) (ks : List ℕ) → Among (those_due due ks) ks
  -- all that are due, and no others
  pub exactly : (due : ℕ → Bool) (ks : List ℕ) (k : ℕ) → has k (those_due due ks) ≡ (due k && has k ks)
  -- they are kinds 1 to n if those of the list are, and those of `order` are
  pub named : {n : ℕ} {ks : List ℕ} (due : ℕ → Bool) → Named n ks → Named n (those_due due ks)
  pub all_named : Named places order
  -- those that come in a call stand in the order just given
  pub came_in_turn : (slot : Bool) (due : ℕ → Bool) (out ws : List ℕ) (u : InOrder slot out (those_due due order) ws)
      → Among u.came (1 ∷ 2 ∷ 3 ∷ 4 ∷ 5 ∷ [])
  -- each flag is that of the kind with its number
  pub flags : (a b c d e : Bool) → let due = flagged (a ∷ b ∷ c ∷ d ∷ e ∷ []) in
      (due 1 ≡ a) × (due 2 ≡ b) × (due 3 ≡ c) × (due 4 ≡ d) × (due 5 ≡ e)
  -- the first joins if it is due, then the others: the code's `join_if`, one after another
  pub one_by_one : (due : ℕ → Bool) (l : List ℕ) (k : ℕ) (ks : List ℕ)
      → joins_in l (those_due due (k ∷ ks)) ≡ joins_in (joins_in l (if_due (due k) k)) (those_due due ks)
