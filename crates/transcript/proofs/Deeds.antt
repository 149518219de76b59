-- Proves `Deeds` of specs/Deeds.antt.
use Prim.Native.Nat.{ℕ, zero, suc}
use mathlib.Core.Path.{◌≡◌, refl, ap, sym, ◌∙◌}
use mathlib.Core.Bool.{cond}
use mathlib.Core.Option.{Option, none, some}
use mathlib.Core.List.{List, [], ◌∷◌, ◌++◌}
use native.Mathlib.Omega.{arith}
use lib.ListN.{replicate}
use Rattle.std.specs.Prelude.{Some}
use borrow.Author.Tests.{le-ltb}
use Rattle.can.specs.declared.Frame.{Frame as Data}
use Rattle.parts.specs.declared.Head.{Head}
use Rattle.parts.specs.declared.Answer.{Answer}
use Rattle.parts.specs.declared.Sensor.TheVariants.{Missing as missing, Raw}
use Rattle.promises.specs.Calls.{Call, receive, tick, sample, slot, step, slot_answer, sent_with, is_frame, frame_in as frameOr}
use Rattle.promises.proofs.Histories.{after_append}
use Rattle.promises.specs.Histories.{after}
use Rattle.text.specs.Ascii.{ascii}
use Rattle.text.specs.Printed.{frame_text, none_text, refusal_text}
use Rattle.text.specs.Forms.{Form, missing as missing-form, slot as slot-form, parted}
use Rattle.text.specs.declared.Command.{Command}
use Rattle.text.proofs.Forms.{forms}
use Rattle.transcript.specs.Commands.{Outcome, silent, refused, told, shown, ticks, called, obeyed}
use Rattle.transcript.specs.Talk.{reply}
use Rattle.transcript.specs.Bytes.{started}
use Rattle.transcript.specs.Deeds.{Does, data11, first, Called, Deeds}
use Rattle.transcript.proofs.Kept.{after_kept}
use Rattle.transcript.proofs.Refusals.{identifier_refused, length_refused, sample_refused, malformed_refused, too_long}

-- what a line of a form does is what its command does
formed : (h : Head) {fs : List (List ℕ)} {c : Command} → Form fs c → reply h (parted fs) ≡ obeyed h (Some c)
formed h f = rw (forms.formed f)

does : {h : Head} {l : List ℕ} {calls : List Call} {text : List ℕ} (o : Outcome) → reply h l ≡ o → o.head ≡ after h calls → o.text ≡ text
    → Does h l calls text
does o e p q = record { head = rw e p; prints = rw e q }

ticks_after : (n : ℕ) (h : Head) → step (ticks n h) tick ≡ ticks n (step h tick)
ticks_after zero h = refl
ticks_after (suc n) h = ap (λ (k : Head). step k tick) (ticks_after n h)

after_ticks : (n : ℕ) (h : Head) → ticks n h ≡ after h (replicate n tick)
after_ticks zero h = refl
after_ticks (suc n) h = ticks_after n h ∙ after_ticks n (step h tick)

told_silent : (a : Answer) → a.refusal ≡ 0 → told a ≡ silent a.head
unfolding told
told_silent a e = rw e

-- a refusal leaves the head
does_refused : {h : Head} {l : List ℕ} (n : ℕ) → reply h l ≡ refused n h → Does h l [] (refusal_text n)
does_refused {h} n e = does (refused n h) e refl refl

abbrev answers : Option Data → List Data
answers o = cond (is_frame o) (frameOr o ∷ []) [] ++ []

abbrev texts : Option Data → List ℕ
texts o = cond (is_frame o) (frame_text (frameOr o)) none_text

printed : (o : Option Data) (f : Data) → answers o ≡ f ∷ [] → texts o ≡ frame_text f
printed none f e = let z : ◌≡◌ {A = ℕ} 0 1 = cc in absurd (omega arith)
printed (some g) f e = let same : g ≡ f = cc in rw same

none_printed : (o : Option Data) → answers o ≡ [] → texts o ≡ none_text
none_printed none e = refl
none_printed (some g) e = let z : ◌≡◌ {A = ℕ} 0 1 = cc in absurd (omega arith)

slot_reply : (h : Head) → reply h (ascii "?") ≡ shown (sent_with (slot_answer h) (step h slot))
slot_reply h = formed h slot-form

called_on : (h : Head) (c : Call) → Called h → Called (step h c)
called_on h c r =
    record {
      calls = r.calls ++ c ∷ [];
      so = ap (λ (k : Head). step k c) r.so ∙ sym (after_append first r.calls (c ∷ []));
    }

pub deeds : Deeds
unfolding refusal_text
deeds =
    record {
      frame_taken = λ h bytes {fs} {id} {len} f a b.
          let x = data11 id len bytes in
          does (silent (step h (receive x)))
          (formed h f ∙ told_silent (called h (receive x)) (rw (le-ltb 0x7FF id a, le-ltb 8 len b)))
          refl refl;
      identifier_refused = λ h {fs} {bytes} {id} {len} f a. does_refused 1 (formed h f ∙ identifier_refused h bytes id len a);
      length_refused = λ h {fs} {bytes} {id} {len} f a b. does_refused 2 (formed h f ∙ length_refused h bytes id len a b);
      ticks_taken = λ h {fs} {n} f. does (silent (ticks n h)) (formed h f) (after_ticks n h) refl;
      sample_taken = λ h {fs} {r} f a.
          does (silent (step h (sample (Raw r)))) (formed h f ∙ told_silent (called h (sample (Raw r))) (rw (le-ltb 1048575 r a))) refl refl;
      sample_refused = λ h {fs} {r} f a. does_refused 3 (formed h f ∙ sample_refused h r a);
      sample_missing_law = λ h.
          does (silent (step h (sample missing))) (formed h missing-form ∙ told_silent (called h (sample missing)) refl) refl refl;
      slot_sends = λ h f e. does _ (slot_reply h) refl (printed (slot_answer h) f e);
      slot_none = λ h e. does _ (slot_reply h) refl (none_printed (slot_answer h) e);
      malformed = λ h l bar. does_refused 9 (malformed_refused h l (forms.unformed l bar));
      too_long = λ h l b. does_refused 9 (too_long h l b);
      in_turn = λ h l ls calls text d. rw (d.prints, d.head);
      nothing = λ h. refl;
      begins = λ input. refl;
      begins_bytes = refl;
      called = λ input. after_kept Called called_on started input (record { calls = []; so = refl });
    }
