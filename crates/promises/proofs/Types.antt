-- The types of a PDO: 1 to 240, or 254 and 255.
use native.Mathlib.Omega.{arith}
use lib.Dec.{eqb, leb}
use mathlib.Core.Path.{◌≡◌}
use mathlib.Core.Logic.{inl, inr, ⊎_elim}
use mathlib.Core.Bool.{true, false}
use borrow.Author.Tests.{eqb-true, eqb-false, leb-true, le-leb}
use Rattle.cases.specs.Tests.{within}
use Rattle.cases.proofs.Cases.{both, test}
use Rattle.entries.specs.declared.Pdo.{Pdo}
use Rattle.dictionary.specs.Valid.{ValidPdo, ValidDevice}
use Rattle.parts.specs.declared.Core.{Core}
use Rattle.promises.specs.States.{communication, PdoNumber, one, two, pdo}
use Rattle.promises.specs.Timers.{synchronous, OnEvents, OnSyncs}

module _ (p : Pdo) where
  pub on_events : OnEvents p → synchronous p ≡ false
  on_events = ⊎_elim (λ (e : p.transmission ≡ 254). rw e) (λ (e : p.transmission ≡ 255). rw e)

  pub events : ValidPdo p → synchronous p ≡ false → OnEvents p
  events v e =
      let t = p.transmission in
      let late : within 254 255 t ≡ true = rw e at v.transmission in
      let u = both (leb 254 t) (leb t 255) late in
      test (eqb t 254) (λ y. inl (eqb-true t 254 y))
      (λ y. inr (omega (arith, leb-true 254 t u.0, leb-true t 255 u.1, eqb-false t 254 y)))

  pub on_syncs : OnSyncs p → synchronous p ≡ true
  on_syncs e = rw (le-leb 1 p.transmission e.0, le-leb p.transmission 240 e.1)

  pub syncs_on : synchronous p ≡ true → OnSyncs p
  syncs_on e = let u = both (leb 1 p.transmission) (leb p.transmission 240) e in (leb-true 1 _ u.0, leb-true _ 240 u.1)

  -- types 254 and 255 are none of 1 to 240
  pub no_both : {A : Type 0} → OnEvents p → OnSyncs p → A
  no_both e s = absurd (⊎_elim (λ (t : p.transmission ≡ 254). omega (arith, t, s.1)) (λ (t : p.transmission ≡ 255). omega (arith, t, s.1)) e)

pub valid_pdo : (c : Core) → ValidDevice c.device → (w : PdoNumber) → ValidPdo (pdo (communication c) w)
valid_pdo c v one = v.settings.communication.pdo1
valid_pdo c v two = v.settings.communication.pdo2
