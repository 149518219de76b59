-- A client that follows CiA 301 (first request, then segments with alternating toggles, each after the reply before) receives
-- exactly the name, for every length 1..32, whatever else is called between (slots, ticks, samples, SYNC). Change request 1/13.
use Rattle.std.specs.Prelude.{ℕ, suc, ◌+◌, ◌/◌, ◌%◌, ◌≤◌, eqb, length, get_or, take, ◌≡◌, ◌⊎◌, false, List, [], ◌∷◌, ◌++◌}
use Rattle.can.specs.declared.Frame.{Frame}
use Rattle.can.specs.declared.Received.{Received}
use Rattle.can.specs.Number.{low_first}
use Rattle.names.specs.declared.Name.{Name}
use Rattle.names.specs.Laws.{first, contents}
use Rattle.cases.specs.Cases.{first_of}
use Rattle.sdo.specs.Exactly.{Reads, ClientAborts}
use Rattle.sdo.specs.UploadLaws.{AsksName, AsksSegment}
use Rattle.parts.specs.declared.Head.{Head}
use Rattle.promises.specs.Calls.{Call, receive, step}
use Rattle.promises.specs.Meant.{Requests}
use Rattle.promises.specs.Histories.{after, slots, sent, PowerUp, powered}
use Rattle.promises.specs.Service.{reply_frame}
use Rattle.promises.specs.Gap.{node_of}
use Rattle.promises.specs.Codes.{All}
use Rattle.promises.specs.Starts.{identity_of}
use Rattle.promises.specs.Transfers.{Between}

-- one of a list of frames
abbrev pub Among : Frame → List Frame → Type 0
Among f [] = ⊥
Among f (g ∷ gs) = (f ≡ g) ⊎ Among f gs

-- The client of node n sends f to head h. Then come the calls cs, among them none of the client, and a slot sends this reply.
pub record Exchange (n : ℕ) (h : Head) (f : Received) (cs : List Call) (reply : List ℕ) : Type 0 where
  pub served : Requests h f
  pub between : All (Between n) cs
  pub arrives : Among (reply_frame n reply) (sent (step h (receive f)) cs)

-- The segment with toggle k % 2, and its reply.
pub record SegmentExchange (n k : ℕ) (h : Head) (f : Received) (cs : List Call) (reply : List ℕ) : Type 0 where
  pub exchange : Exchange n h f cs reply
  pub asks : AsksSegment f.bytes
  pub toggle : get_or f.bytes 0 0 / 16 % 2 ≡ k % 2

-- What the client receives from head h on, after k segments: it asks until bit 0 of a reply says that it was the last.
pub data Receives (n : ℕ) : Head → ℕ → List ℕ → Type 0 where
  last : {h : Head} {k : ℕ} (f : Received) (cs : List Call) (reply : List ℕ) → SegmentExchange n k h f cs reply → first reply % 2 ≡ 1
      → Receives n h k (contents reply)
  more : {h : Head} {k : ℕ} {rest : List ℕ} (f : Received) (cs : List Call) (reply : List ℕ) → SegmentExchange n k h f cs reply
      → first reply % 2 ≡ 0 → Receives n (after (step h (receive f)) cs) (suc k) rest → Receives n h k (contents reply ++ rest)

-- A request for segment k, as a client sends it: its other bits and bytes 1..7 may be anything.
pub record Asks (n k : ℕ) (f : Received) : Type 0 where
  pub of_11_bits : f.extended ≡ false
  pub is_data : f.remote ≡ false
  pub identifier : f.identifier ≡ 0x600 + n
  pub length : f.length ≡ 8
  pub asks : AsksSegment f.bytes
  pub toggle : get_or f.bytes 0 0 / 16 % 2 ≡ k % 2

-- The calls between two requests of the client of node n: five slots or more, and whatever else.
pub record Meanwhile (n : ℕ) (cs : List Call) : Type 0 where
  pub between : All (Between n) cs
  pub enough : 5 ≤ slots cs

-- the name that power-up was given for 1008h, 1009h, 100Ah: k is 1, 2, 3
abbrev pub given : PowerUp → ℕ → Name
given p k = let i = identity_of p in first_of ((eqb k 1, i.name) ∷ (eqb k 2, i.hardware) ∷ []) i.software

-- From any head on that comes from power-up, by a first request f for name k:
pub record NamesRead : Type 0 where
  -- the size announced is that of the name,
  pub announced : (p : PowerUp) (before : List Call) (k : ℕ) (f : Received) (cs : List Call) (reply : List ℕ)
      → Reads f.bytes → AsksName k f.bytes → Exchange (node_of p) (after (powered p) before) f cs reply
      → let b = f.bytes in
      let n = given p k in reply ≡ 0x41 ∷ get_or b 1 0 ∷ get_or b 2 0 ∷ get_or b 3 0 ∷ low_first 4 (length (take n.length n.bytes))
  -- and the client receives exactly the name.
  pub exactly : (p : PowerUp) (before : List Call) (k : ℕ) (f : Received) (cs : List Call) (reply : List ℕ)
      → Reads f.bytes → AsksName k f.bytes → let h = after (powered p) before in Exchange (node_of p) h f cs reply
      → (data-received : List ℕ) → Receives (node_of p) (after (step h (receive f)) cs) 0 data-received
      → let n = given p k in data-received ≡ take n.length n.bytes
  -- A client that waits for five slots gets the reply to each of its requests that is served,
  pub each_arrives : (p : PowerUp) (before : List Call) (f : Received) (cs : List Call) → let h = after (powered p) before in
      Requests h f → (ClientAborts f.bytes → ⊥) → Meanwhile (node_of p) cs
      → Exchange (node_of p) h f cs (step h (receive f)).core.reply
  -- and so the whole name, whatever it puts into the other bits and bytes of its requests and whatever else is called between.
  pub whole : (p : PowerUp) (before : List Call) (k : ℕ) (f : Received) (cs : List Call) → Reads f.bytes → AsksName k f.bytes
      → let h = after (powered p) before in Requests h f → Meanwhile (node_of p) cs
      → (request : ℕ → Received) (between : ℕ → List Call)
      → ((j : ℕ) → Asks (node_of p) j (request j)) → ((j : ℕ) → Meanwhile (node_of p) (between j))
      → let n = given p k in Receives (node_of p) (after (step h (receive f)) cs) 0 (take n.length n.bytes)
