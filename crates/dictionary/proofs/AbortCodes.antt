-- Two answers with the same code are the same: no reason has the code 0, and no two have one code. By cases. Assumes nothing.
use Prim.Native.Nat.{ℕ}
use mathlib.Core.Path.{◌≡◌, refl, sym, ap, ◌∙◌}
use mathlib.Core.Bool.{cond}
use lib.Dec.{eqb}
use Rattle.std.specs.Prelude.{Result, Ok, Err}
use Rattle.dictionary.specs.declared.abort.Abort.{Abort}
use Rattle.dictionary.specs.declared.abort.Abort.TheVariants.{WrongToggle, UnknownCommand, ReadOnly, NoSuchIndex, TooLong, TooShort}
use Rattle.dictionary.specs.declared.abort.Abort.TheVariants.{NoSuchSubIndex, InvalidValue, WrongSignature, DeviceState, Blank}
use Rattle.dictionary.specs.AbortCodes.{code_in}

abbrev Answer : Type 0
Answer = Result (Unit {0}) Abort

abbrev answer_of : ℕ → Answer
answer_of n =
    cond (eqb n 0) (Ok tt)
    (cond (eqb n 0x05030000) (Err WrongToggle)
    (cond (eqb n 0x05040001) (Err UnknownCommand)
    (cond (eqb n 0x06020000) (Err NoSuchIndex)
    (cond (eqb n 0x06090011) (Err NoSuchSubIndex)
    (cond (eqb n 0x06010002) (Err ReadOnly)
    (cond (eqb n 0x06070012) (Err TooLong)
    (cond (eqb n 0x06070013) (Err TooShort)
    (cond (eqb n 0x06090030) (Err InvalidValue)
    (cond (eqb n 0x08000020) (Err WrongSignature)
    (cond (eqb n 0x08000022) (Err DeviceState) (Err Blank)))))))))))

answer_told : (x : Answer) → answer_of (code_in x) ≡ x
answer_told (Ok done) = refl
answer_told (Err WrongToggle) = refl
answer_told (Err UnknownCommand) = refl
answer_told (Err NoSuchIndex) = refl
answer_told (Err NoSuchSubIndex) = refl
answer_told (Err ReadOnly) = refl
answer_told (Err TooLong) = refl
answer_told (Err TooShort) = refl
answer_told (Err InvalidValue) = refl
answer_told (Err WrongSignature) = refl
answer_told (Err DeviceState) = refl
answer_told (Err Blank) = refl

pub one_answer : (x y : Answer) → code_in x ≡ code_in y → x ≡ y
one_answer x y e = sym (answer_told x) ∙ ap answer_of e ∙ answer_told y
