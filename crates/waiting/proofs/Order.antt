-- Proves `InOrder` of specs/Laws.antt for every call: the order is kept. Assumes nothing.
use Prim.Native.Nat.{ℕ}
use mathlib.Core.Path.{◌≡◌, refl, sym, ◌∙◌}
use mathlib.Core.Bool.{Bool, true, false, cond}
use mathlib.Core.List.{List, [], ◌∷◌, ◌++◌, append-nil, append_assoc}
use lib.Dec.{eqb}
use lib.ListN.{drop}
use borrow.Author.Tests.{eqb-true}
use Rattle.cases.proofs.Cases.{by, test, neither, true_false}
use Rattle.waiting.specs.Line.{has, join, withdraw}
use Rattle.waiting.specs.Calls.{withdraws, joins}
use Rattle.waiting.specs.Laws.{Among, end, skip, keep, InOrder}
use Rattle.waiting.proofs.After.{has_append, has_withdraws}

among_all : (ws : List ℕ) → Among ws ws
among_all [] = end
among_all (x ∷ xs) = keep (among_all xs)

pub among_trans : {a b c : List ℕ} → Among a b → Among b c → Among a c
among_trans p end = p
among_trans p (skip q) = skip (among_trans p q)
among_trans (skip p) (keep q) = skip (among_trans p q)
among_trans (keep p) (keep q) = keep (among_trans p q)

among_withdraw : (ws : List ℕ) (k : ℕ) → Among (withdraw ws k) ws
among_withdraw [] k = end
among_withdraw (x ∷ xs) k =
    by (λ (r : List ℕ). Among r (x ∷ xs)) (eqb x k) (λ e. skip (among_withdraw xs k)) (λ e. keep (among_withdraw xs k))

among_withdraws : (ws ks : List ℕ) → Among (withdraws ws ks) ws
among_withdraws ws [] = among_all ws
among_withdraws ws (k ∷ ks) = among_trans (among_withdraws (withdraw ws k) ks) (among_withdraw ws k)

among_sent : (slot : Bool) (ws : List ℕ) → Among (cond slot (drop 1 ws) ws) ws
among_sent true [] = end
among_sent true (x ∷ xs) = skip (among_all xs)
among_sent false ws = among_all ws

-- a kind that waits keeps its place, another joins at the end
pub join_is : (ws : List ℕ) (k : ℕ) → join ws k ≡ cond (has k ws) ws (ws ++ k ∷ [])
join_is [] k = refl
join_is (x ∷ xs) k =
    test (eqb x k)
    (λ e. rw e)
    (λ e. rw (e, join_is xs k) (test (has k xs) (λ t. rw t) (λ t. rw t)))

-- those of `into` that do not wait yet
record Newcomers (ws into : List ℕ) : Type 0 where
  came : List ℕ
  line : joins ws into ≡ ws ++ came
  joined : Among came into
  new : (k : ℕ) → has k came ≡ true → has k ws ≡ false

newcomers : (into ws : List ℕ) → Newcomers ws into
newcomers [] ws = record { came = []; line = sym (append-nil ws); joined = end; new = λ k h. true_false (sym h) }
newcomers (j ∷ js) ws =
    test (has j ws)
    (λ e.
    let u : Newcomers ws js = newcomers js ws in
    record { came = u.came; line = rw (join_is ws j, e) u.line; joined = skip u.joined; new = u.new })
    (λ e.
    let u : Newcomers (ws ++ j ∷ []) js = newcomers js (ws ++ j ∷ []) in
    record {
      came = j ∷ u.came;
      line = rw (join_is ws j, e) (u.line ∙ append_assoc ws (j ∷ []) u.came);
      joined = keep u.joined;
      new = λ k h.
          test (eqb j k)
          (λ t. rw (← eqb-true j k t) e)
          (λ t. (neither (has k ws) (has k (j ∷ [])) (sym (has_append k ws (j ∷ [])) ∙ u.new k (rw t at h))).0);
    })

pub in_order : (slot : Bool) (out into ws : List ℕ) → InOrder slot out into ws
in_order slot out into ws =
    let rest : List ℕ = cond slot (drop 1 ws) ws in
    let u : Newcomers (withdraws rest out) into = newcomers into (withdraws rest out) in
    record {
      stayed = withdraws rest out;
      came = u.came;
      line = u.line;
      waited = among_trans (among_withdraws rest out) (among_sent slot ws);
      joined = u.joined;
      stays = λ k. has_withdraws k rest out;
      new = u.new;
    }
