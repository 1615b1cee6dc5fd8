-- What holds at each line of a text.
use Rattle.std.proofs.Common.{◌≡◌, ℕ, ◌+◌, ◌<◌, List, [], ◌∷◌, length, Bool, true, false, cond, Option, Some, None, refl, sym, ap, ◌∙◌, arith, add-one}
use Rattle.text_lines.specs.Faults.{or_later}
use Rattle.text_lines.specs.Lines.{lines_of}
use Rattle.mps_profile.specs.Texts.{Text}
use Rattle.mps_profile.specs.Reading.{fault_from, read_from, first_fault, lines_read, is_ended, line_fault}
use Rattle.mps_profile.specs.declared.dialect.Dialect.{Dialect}
use Rattle.mps_profile.specs.declared.faults.MpsFaultKind.{MpsFaultKind}
use Rattle.mps_profile.specs.declared.faults.MpsFaultKind.TheVariants.{NoEnd}
use Rattle.mps_laws.specs.Going.{Going}

pub at_start : (dialect : Dialect) (text : List ℕ) → Going dialect text text 0 []
at_start dialect text = record { count = refl; fault = refl; read = refl; few = omega arith }

-- after ENDATA nothing is read
ended_fault : (dialect : Dialect) (before after : List Text) → is_ended dialect before ≡ true → fault_from dialect before after ≡ None
ended_fault dialect before [] is = ap (λ (b : Bool). cond b None (Some (NoEnd, length before + 1))) is
ended_fault dialect before (line ∷ after) is =
    ap (λ (b : Bool). cond b None (or_later (line_fault dialect before line after) (length before + 1) (fault_from dialect (line ∷ before) after))) is

ended_read : (dialect : Dialect) (before after : List Text) → is_ended dialect before ≡ true → read_from dialect before after ≡ before
ended_read dialect before [] is = refl
ended_read dialect before (line ∷ after) is = ap (λ (b : Bool). cond b before (read_from dialect (line ∷ before) after)) is

-- after ENDATA the text has no fault, and its lines are read
pub at_end : (dialect : Dialect) (text rest : List ℕ) (number : ℕ) (before : List Text) → Going dialect text rest number before → is_ended dialect before ≡ true
    → (first_fault dialect text ≡ None) × (lines_read dialect text ≡ before)
at_end dialect text rest number before g is = (
  sym g.fault ∙ ended_fault dialect before (lines_of rest) is,
  sym g.read ∙ ended_read dialect before (lines_of rest) is,
)

-- the text ends without ENDATA
pub without_end : (dialect : Dialect) (text : List ℕ) (number : ℕ) (before : List Text) → Going dialect text [] number before → is_ended dialect before ≡ false
    → first_fault dialect text ≡ Some (NoEnd, number + 1)
without_end dialect text number before g is =
    sym g.fault ∙ ap (λ (b : Bool). cond b None (Some (NoEnd, length before + 1))) is ∙ ap (λ n. Some (NoEnd, n + 1)) (sym g.count)

-- a line whose fault is this one, or none
next_fault : (dialect : Dialect) (text rest after : List ℕ) (line : Text) (number : ℕ) (before : List Text) (o : Option MpsFaultKind) → Going dialect text rest number before
    → lines_of rest ≡ line ∷ lines_of after → is_ended dialect before ≡ false → line_fault dialect before line (lines_of after) ≡ o
    → or_later o (length before + 1) (fault_from dialect (line ∷ before) (lines_of after)) ≡ first_fault dialect text
next_fault dialect text rest after line number before o g first is fault =
    sym (ap (λ (b : Bool). cond b None (or_later (line_fault dialect before line (lines_of after)) (length before + 1) (fault_from dialect (line ∷ before) (lines_of after)))) is
    ∙ ap (λ (p : Option MpsFaultKind). or_later p (length before + 1) (fault_from dialect (line ∷ before) (lines_of after))) fault)
    ∙ sym (ap (fault_from dialect before) first)
    ∙ g.fault

-- the first line with a fault
pub at_fault : (dialect : Dialect) (text rest after : List ℕ) (line : Text) (number : ℕ) (before : List Text) (fault : MpsFaultKind) → Going dialect text rest number before
    → lines_of rest ≡ line ∷ lines_of after → is_ended dialect before ≡ false → line_fault dialect before line (lines_of after) ≡ Some fault
    → first_fault dialect text ≡ Some (fault, number + 1)
at_fault dialect text rest after line number before fault g first is told =
    sym (next_fault dialect text rest after line number before (Some fault) g first is told) ∙ ap (λ n. Some (fault, n + 1)) (sym g.count)

-- a line without a fault
pub one_more : (dialect : Dialect) (text rest after : List ℕ) (line : Text) (number : ℕ) (before : List Text) → Going dialect text rest number before
    → lines_of rest ≡ line ∷ lines_of after → length after < length rest → is_ended dialect before ≡ false → line_fault dialect before line (lines_of after) ≡ None
    → Going dialect text after (number + 1) (line ∷ before)
one_more dialect text rest after line number before g first shorter is sound = record {
  count = ap (λ n. n + 1) g.count ∙ add-one (length before);
  fault = next_fault dialect text rest after line number before None g first is sound;
  read = sym (ap (λ (b : Bool). cond b before (read_from dialect (line ∷ before) (lines_of after))) is) ∙ sym (ap (read_from dialect before) first) ∙ g.read;
  few = omega (arith, g.few, shorter);
}
