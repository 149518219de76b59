-- What it means that a contract allows one outcome, and that it requires no more than it may: 01, chapter "Strength of the promises".
-- No contract is written a second time here. Rattle turns the clauses of each function in src/ into a module with the function's name:
-- `ended` is its signature, and `clauses` are its clauses, as assertions about any memory. A field of specs/Outcomes.antt and of
-- specs/Asked.antt has the proof, `refl`, that the clauses are this plain fact and nothing else: with another proof or another fact the
-- field has no type. Where no fact is written, the fact is the one that `refl` finds in the clauses.
use Rattle.std.specs.Prelude.{◌≡◌}
use contract.Lifetimes.{Lfts}
use seplogic.Ra.Ura.{Ura}
use base.Logic.{SProp, emp, sep}
use prog.Memory.{Memory}
use prog.Routine.{Routine}
use types.Logic.{Logic}
use contract.Monad.{Fun, fact}
use denote.Triple.Entry.{Args, Res}
use denote.Triple.Clauses.{Ended, Clauses, ClausesAt, Lasts, AtExit, at_exit}

-- a statement about the arguments, the answer, and the parameters as the call leaves them
abbrev pub Promise : Ended → Type 1
Promise T = (κs : Lfts T.signature.lifetimes) → Args T.signature κs → Res T.signature κs → AtExit T κs → Type 0

-- For every input, refused ones too, a public call's promise determines the answer and the head afterwards: two outcomes that satisfy it are equal.
-- An outcome is the answer and what is left behind each `&mut`. The arguments are any of their types; what a contract requires of them is not used.
abbrev pub OneOutcome : (T : Ended) → Promise T → Type 0
OneOutcome T Learnt =
    (κs : Lfts T.signature.lifetimes) (a : Args T.signature κs) (x y : Res T.signature κs × Lasts T κs a)
    → Learnt κs a x.0 (at_exit T κs a x.1) → Learnt κs a y.0 (at_exit T κs a y.1) → x ≡ y

-- a caller learns this about the outcome
abbrev pub Promises : (T : Ended) → Promise T → Promise T → Type 0
Promises T This Learnt =
    (κs : Lfts T.signature.lifetimes) (a : Args T.signature κs) (r : Res T.signature κs) (e : AtExit T κs) → Learnt κs a r e → This κs a r e

-- a condition on the arguments
abbrev pub Need : Ended → Type 1
Need T = (κs : Lfts T.signature.lifetimes) → Args T.signature κs → Type 0

-- a call that takes any arguments
abbrev pub AsksNothing : (T : Ended) → Need T → Type 0
AsksNothing T Asked = (κs : Lfts T.signature.lifetimes) (a : Args T.signature κs) → Asked κs a

-- and one that requires no more of them than this
abbrev pub AsksOnly : (T : Ended) → Need T → Need T → Type 0
AsksOnly T This Asked = (κs : Lfts T.signature.lifetimes) (a : Args T.signature κs) → This κs a → Asked κs a

-- A function's clauses, and what holds of them at each of its arguments in every model of the logic.
abbrev pub Contract : Ended → Type 2
Contract T = (M : Type 1) (𝓤 : Ura M) → (𝓛 : Logic 𝓤) → (Memory → SProp 𝓤) → (Routine → Fun 𝓤) → Clauses 𝓤 T

abbrev pub Everywhere : (T : Ended) → Contract T
    → ((M : Type 1) (𝓤 : Ura M) (κs : Lfts T.signature.lifetimes) → Args T.signature κs → ClausesAt 𝓤 T κs → Type 2) → Type 2
Everywhere T contract P =
    (M : Type 1) (𝓤 : Ura M) (𝓛 : Logic 𝓤) (m : Memory → SProp 𝓤) (f : Routine → Fun 𝓤) (κs : Lfts T.signature.lifetimes) (a : Args T.signature κs)
    → P M 𝓤 κs a (contract M 𝓤 𝓛 m f κs a)

-- they ensure this and nothing else, in one clause or in two
abbrev pub Ensures : (T : Ended) → Promise T → Contract T → Type 2
Ensures T This contract =
    Everywhere T contract (λ M 𝓤 κs a c. (g : c.ghost) (r : Res T.signature κs) (e : AtExit T κs) → c.ensures g r e ≡ fact 𝓤 (This κs a r e))

abbrev pub EnsuresBoth : (T : Ended) → Promise T → Promise T → Contract T → Type 2
EnsuresBoth T This That contract =
    Everywhere T contract (λ M 𝓤 κs a c. (g : c.ghost) (r : Res T.signature κs) (e : AtExit T κs)
    → c.ensures g r e ≡ sep 𝓤 (fact 𝓤 (This κs a r e)) (fact 𝓤 (That κs a r e)))

-- they require nothing, or this and nothing else, in one clause or in two; and a caller can bring it: there is a ghost value
abbrev pub RequiresNothing : (T : Ended) → Contract T → Type 2
RequiresNothing T contract = Everywhere T contract (λ M 𝓤 κs a c. c.ghost × ((g : c.ghost) → c.requires g ≡ emp 𝓤))

abbrev pub Requires : (T : Ended) → Need T → Contract T → Type 2
Requires T This contract = Everywhere T contract (λ M 𝓤 κs a c. c.ghost × ((g : c.ghost) → c.requires g ≡ fact 𝓤 (This κs a)))

abbrev pub RequiresBoth : (T : Ended) → Need T → Need T → Contract T → Type 2
RequiresBoth T This That contract =
    Everywhere T contract (λ M 𝓤 κs a c. c.ghost × ((g : c.ghost) → c.requires g ≡ sep 𝓤 (fact 𝓤 (This κs a)) (fact 𝓤 (That κs a))))

-- What these clauses ensure allows one outcome.
abbrev pub OneOutcomeOf : (T : Ended) {This : Promise T} (contract : Contract T) → Ensures T This contract → Type 0
OneOutcomeOf T {This} contract says = OneOutcome T This

abbrev pub OneOutcomeOfBoth : (T : Ended) {This That : Promise T} (contract : Contract T) → EnsuresBoth T This That contract → Type 0
OneOutcomeOfBoth T {This} {That} contract says = OneOutcome T (λ κs a r e. This κs a r e × That κs a r e)

-- What they ensure promises a caller this.
abbrev pub PromisesOf : (T : Ended) → Promise T → {Learnt : Promise T} (contract : Contract T) → Ensures T Learnt contract → Type 0
PromisesOf T This {Learnt} contract says = Promises T This Learnt

-- What they require is nothing, or no more than this.
abbrev pub AsksNothingOf : (T : Ended) (contract : Contract T) → RequiresNothing T contract → Type 0
AsksNothingOf T contract says = AsksNothing T (λ κs a. Unit {0})

abbrev pub AsksOnlyOf : (T : Ended) → Need T → {Asked : Need T} (contract : Contract T) → Requires T Asked contract → Type 0
AsksOnlyOf T This {Asked} contract says = AsksOnly T This Asked

abbrev pub AsksOnlyOfBoth : (T : Ended) → Need T → {Asked Also : Need T} (contract : Contract T) → RequiresBoth T Asked Also contract → Type 0
AsksOnlyOfBoth T This {Asked} {Also} contract says = AsksOnly T This (λ κs a. Asked κs a × Also κs a)
