-- When each reply is due, by what the request is and what is found: each case leads to its reply, and each reply comes from its case.
use Prim.Native.Nat.{ℕ, zero, suc, ◌-◌, ◌/◌, ◌%◌, ◌<◌}
use native.Mathlib.Omega.{arith}
use mathlib.Core.Path.{◌≡◌, refl, sym, ap, subst, ◌∙◌}
use mathlib.Core.Bool.{Bool, true, false, not, ◌&&◌, cond}
use mathlib.Core.List.{List, [], ◌∷◌}
use lib.Dec.{eqb, ltb}
use lib.ListN.{get_or}
use borrow.Author.Tests.{eqb-true, eqb-false, ltb-true, lt-ltb, le-ltb, not-true, not-false}
use Rattle.cases.specs.Cases.{first_of}
use Rattle.cases.proofs.Cases.{by, true_false, both}
use Rattle.can.specs.Number.{number, AreBytes}
use Rattle.entries.specs.declared.Device.{Device}
use Rattle.entries.specs.declared.table.Row.{Row}
use Rattle.entries.specs.Table.{key, width, is_rw, accepted}
use Rattle.entries.specs.Laws.{Listed}
use Rattle.dictionary.specs.Shown.{Shown}
use Rattle.std.specs.Prelude.{None as Blank, Some as Number}
use Rattle.dictionary.specs.Reads.{shown}
use Rattle.dictionary.specs.Accepted.{accepts_in, is_signature, barred}
use Rattle.sdo.specs.Request.{data_of}
use Rattle.sdo.specs.Service.{Due, none, value, confirmation, abort, upload, is_blank, number_in, length_of, cut_to, due}
use Rattle.sdo.specs.Exactly.{Exactly}
use Rattle.sdo.specs.Exactly as S
use Rattle.sdo.proofs.Ways.{write_due, client, unknown, no_index, no_sub_index, reads, writes, each_way}
use Rattle.sdo.proofs.Signature.{signs, signs_not}
use Rattle.sdo.proofs.Told.{same}
use Rattle.sdo.proofs.Width.{each_width}

byte_at : (f : List ℕ) → AreBytes f → (k : ℕ) → get_or f k 0 < 256
byte_at [] h k = omega arith
byte_at (b ∷ bs) h zero = h.0
byte_at (b ∷ bs) h (suc k) = byte_at bs h.1 k

cut_is : (f : List ℕ) → AreBytes f → (r : Row) → Listed r → cut_to (width r) (data_of f) ≡ S.content f r
cut_is f h =
    let a = byte_at f h 4 in
    let b = byte_at f h 5 in
    let c = byte_at f h 6 in
    let e = byte_at f h 7 in
    each_width (λ w. cut_to w (data_of f) ≡ number (S.first_data w f)) (omega arith) (omega arith) (omega arith) (omega arith)

left : (a b : Bool) → a ≡ true → (a && b) ≡ false → b ≡ false
left true b d e = e
left false b d e = true_false (sym d)

-- a length that the request says is compared with the entry's
is_longer : (t : Bool) (b n w : ℕ) → eqb b 1 ≡ t → ltb w (cond t n w) ≡ true → (b ≡ 1) × (w < n)
is_longer true b n w e l = (eqb-true b 1 e, ltb-true w n l)
is_longer false b n w e l = let z = ltb-true w w l in absurd (omega arith)

is_shorter : (t : Bool) (b n w : ℕ) → eqb b 1 ≡ t → ltb (cond t n w) w ≡ true → (b ≡ 1) × (n < w)
is_shorter true b n w e l = (eqb-true b 1 e, ltb-true n w l)
is_shorter false b n w e l = let z = ltb-true w w l in absurd (omega arith)

is_as_long : (t : Bool) (b n w : ℕ) → eqb b 1 ≡ t → ltb w (cond t n w) ≡ false → ltb (cond t n w) w ≡ false → b ≡ 1 → n ≡ w
is_as_long true b n w e l s h = same n w l s
is_as_long false b n w e l s h = absurd (eqb-false b 1 e h)

-- and one that is as long is the entry's
length_is : (t : Bool) (b n w : ℕ) → eqb b 1 ≡ t → (b ≡ 1 → n ≡ w) → cond t n w ≡ w
length_is true b n w e h = h (eqb-true b 1 e)
length_is false b n w e h = refl

module _ (d : Device) (o : Bool) (f : List ℕ) (bytes : AreBytes f) where
  cut : (r : Row) → S.WritesTo f r → write_due d o f r (cut_to (width r) (data_of f)) ≡ write_due d o f r (S.content f r)
  cut r h = ap (write_due d o f r) (cut_is f bytes r h.1.0.0)

  writes_content : (r : Row) → S.WritesTo f r → due d o f ≡ write_due d o f r (S.content f r)
  writes_content r h = writes d o f r h ∙ cut r h

  -- what each reply tells
  abbrev Reason : ℕ → Type 0
  Reason c =
      cond (eqb c 0x05040001) (S.UnknownCommand f)
      (cond (eqb c 0x06020000) (S.NoSuchIndex f)
      (cond (eqb c 0x06090011) (S.NoSuchSubIndex f)
      (cond (eqb c 0x06010002) (S.WriteToRo f)
      (cond (eqb c 0x06070012) (S.TooLong f)
      (cond (eqb c 0x06070013) (S.TooShort f)
      (cond (eqb c 0x06090030) (S.WrongValue d f)
      (cond (eqb c 0x08000020) (S.WrongSignature d f)
      (cond (eqb c 0x08000022) (S.Barred d f)
      (cond (eqb c 0x08000024) (S.BlankRead d o f)
      ⊥)))))))))

  abbrev Tells : Due → Type 0
  Tells none = S.ClientAborts f
  Tells (value w n) = S.ValueRead d o f w n
  Tells (confirmation k v) = S.ValueWritten d f k v
  Tells (abort c) = Reason c
  Tells (upload b t) = ⊥

  module _ (P : Due → Type 0) (none_so : S.ClientAborts f → P none) (unknown-so : S.UnknownCommand f → P (abort 0x05040001))
      (no-index-so : S.NoSuchIndex f → P (abort 0x06020000)) (no-sub-index-so : S.NoSuchSubIndex f → P (abort 0x06090011))
      (ro-so : S.WriteToRo f → P (abort 0x06010002)) (long-so : S.TooLong f → P (abort 0x06070012))
      (short-so : S.TooShort f → P (abort 0x06070013)) (value-so : S.WrongValue d f → P (abort 0x06090030))
      (signature-so : S.WrongSignature d f → P (abort 0x08000020)) (state-so : S.Barred d f → P (abort 0x08000022))
      (blank-so : S.BlankRead d o f → P (abort 0x08000024)) (read-so : (w n : ℕ) → S.ValueRead d o f w n → P (value w n))
      (written_so : (k v : ℕ) → S.ValueWritten d f k v → P (confirmation k v)) where
    read_each_law : (r : Row) → S.ReadsFrom f r → (s : Shown) → shown d o r ≡ s
        → P (cond (is_blank s) (abort 0x08000024) (value (width r) (number_in s)))
    read_each_law r h Blank e = blank-so (r, (h, e))
    read_each_law r h (Number n) e = read-so (width r) n (r, (h, (refl, e)))

    write_each : (r : Row) → S.WritesTo f r → P (write_due d o f r (S.content f r))
    write_each r h =
        let v = S.content f r in
        let b = get_or f 0 0 in
        by P (not (is_rw r)) (λ e. ro-so (r, (h, not-true (is_rw r) e))) (λ rw.
        let writable : S.WritesRw f r = (h, not-false (is_rw r) rw) in
        by P (ltb (width r) (length_of f (width r))) (λ e. long-so (r, (writable, is_longer _ (b % 2) _ (width r) refl e))) (λ long.
        by P (ltb (length_of f (width r)) (width r)) (λ e. short-so (r, (writable, is_shorter _ (b % 2) _ (width r) refl e))) (λ short.
        let fitting : S.WritesLength f r = (writable, is_as_long _ (b % 2) _ (width r) refl long short) in
        by P (not (accepts_in d r v) && is_signature (accepted r))
        (λ e. let a = both _ _ e in signature-so (r, ((fitting, not-true _ a.0), (signs f r h.1).0 a.1))) (λ signed.
        by P (not (accepts_in d r v))
        (λ e. value-so (r, ((fitting, not-true _ e), (signs_not f r h.1).0 (left _ _ e signed)))) (λ accepted.
        let takes : S.WritesValue d f r = (fitting, not-false _ accepted) in
        by P (barred d (key r) v) (λ e. state-so (r, (takes, e))) (λ e. written_so (key r) v (r, (takes, (e, (refl, refl))))))))))

    -- a property of each reply in its own case is a property of what is due
    each_reply : P (due d o f)
    each_reply =
        each_way d o f P none_so unknown-so no-index-so no-sub-index-so (λ r h. read_each_law r h (shown d o r) refl)
        (λ r h. subst P (sym (cut r h)) (write_each r h))

  tells : Tells (due d o f)
  tells =
      each_reply Tells (λ h. h) (λ h. h) (λ h. h) (λ h. h) (λ h. h) (λ h. h) (λ h. h) (λ h. h) (λ h. h) (λ h. h) (λ h. h)
      (λ w n h. h) (λ k v h. h)

  told : (x : Due) → due d o f ≡ x → Tells x
  told x e = subst Tells e tells

  -- a write that has its length
  fitting : (r : Row) → S.WritesLength f r → length_of f (width r) ≡ width r
  fitting r h = length_is _ (get_or f 0 0 % 2) _ (width r) refl h.1

  write_to_ro : S.WriteToRo f → due d o f ≡ abort 0x06010002
  write_to_ro (r, (h, e)) = writes_content r h ∙ rw e

  too_long_law : S.TooLong f → due d o f ≡ abort 0x06070012
  too_long_law (r, ((h, e), (b, l))) = writes_content r h ∙ rw (e, b, lt-ltb _ _ l)

  too_short_law : S.TooShort f → due d o f ≡ abort 0x06070013
  too_short_law (r, ((h, e), (b, l))) =
      writes_content r h ∙ rw (e, b, le-ltb (width r) (4 - get_or f 0 0 / 4 % 4) (omega arith), lt-ltb _ _ l)

  -- passes steps 3 and 4
  as_long : (r : Row) → S.WritesLength f r → due d o f
      ≡ first_of (
      (not (accepts_in d r (S.content f r)) && is_signature (accepted r), abort 0x08000020) ∷
      (not (accepts_in d r (S.content f r)), abort 0x06090030) ∷
      (barred d (key r) (S.content f r), abort 0x08000022) ∷ [])
      (confirmation (key r) (S.content f r))
  as_long r h = writes_content r h.0.0 ∙ rw (h.0.1, fitting r h, le-ltb (width r) (width r) (omega arith))

  wrong_value : S.WrongValue d f → due d o f ≡ abort 0x06090030
  wrong_value (r, ((h, a), n)) = as_long r h ∙ rw (a, (signs_not f r h.0.0.1).1 n)

  wrong_signature_law : S.WrongSignature d f → due d o f ≡ abort 0x08000020
  wrong_signature_law (r, ((h, a), s)) = as_long r h ∙ rw (a, (signs f r h.0.0.1).1 s)

  pub exactly : Exactly d o f (due d o f)
  exactly =
      record {
        nothing = (told none, client d o f);
        step1 = (told (abort _), unknown d o f);
        step2_index = (told (abort _), no_index d o f);
        step2_sub_index = (told (abort _), no_sub_index d o f);
        step3 = (told (abort _), write_to_ro);
        step4_longer = (told (abort _), too_long_law);
        step4_shorter = (told (abort _), too_short_law);
        step5_value = (told (abort _), wrong_value);
        step5_signature = (told (abort _), wrong_signature_law);
        step6 = (told (abort _), λ h. as_long h.0 h.1.0.0 ∙ rw (h.1.0.1, h.1.1));
        step7 = (told (abort _), λ h. reads d o f h.0 h.1.0 ∙ rw h.1.1);
        values = λ w n. (told (value w n), λ h. reads d o f h.0 h.1.0 ∙ rw (h.1.1.1, h.1.1.0));
        confirmations = λ k v. (
          told (confirmation k v),
          λ h.
              as_long h.0 h.1.0.0 ∙ rw (h.1.0.1, h.1.1.0, h.1.1.1.0, h.1.1.1.1),
        );
      }

  pub only : (x : Due) → Exactly d o f x → x ≡ due d o f
  only x e =
      each_reply (λ y. x ≡ y) e.nothing.1 e.step1.1 e.step2_index.1 e.step2_sub_index.1 e.step3.1 e.step4_longer.1
      e.step4_shorter.1 e.step5_value.1 e.step5_signature.1 e.step6.1 e.step7.1 (λ w n. (e.values w n).1)
      (λ k v. (e.confirmations k v).1)
