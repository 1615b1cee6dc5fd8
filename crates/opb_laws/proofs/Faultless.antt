-- Tokens without a fault.
use Rattle.std.proofs.Common.{◌≡◌, ℕ, suc, List, [], ◌∷◌, Bool, true, false, cond, ◌&&◌, not, Option, Some, None, refl, sym, ap, ◌∙◌}
use Rattle.std.specs.Prelude.{is_none}
use Rattle.text_lines.specs.Lines.{lines_of}
use Rattle.text_lines.proofs.FaultLaws.{later_none}
use Rattle.opb_text.specs.Words.{Text}
use Rattle.opb_text.specs.Tokens.{Token, End, tokens_on}
use Rattle.opb_text.specs.Faults.{least}
use Rattle.opb_text.specs.Places.{behind}
use Rattle.opb_text.specs.Statements.{statement_fits}
use Rattle.opb_text.specs.Reading.{is_end, ends_in_literal, plain_fault, standing_fault, place_fault, or_else, fault_at, place_behind, place_of, token_fault, line_fault, going_on, fault_from, first_fault, tokens_from, tokens_of}
use Rattle.opb_text.specs.declared.places.Place.{Place}
use Rattle.opb_text.specs.declared.places.Place.TheVariants.{Start}
use Rattle.opb_text.specs.declared.faults.OpbFaultKind.{OpbFaultKind}
use Rattle.opb_text.specs.declared.faults.OpbFaultKind.TheVariants.{NumberPast}
use Rattle.opb_laws.specs.Faultless.{IsFaultless}

least_none : (x y : Option OpbFaultKind) → least x y ≡ None → (x ≡ None) × (y ≡ None)
least_none None y is = (refl, is)
least_none (Some k) None is = cc
least_none (Some k) (Some l) is = cc

line_faultless : (before tokens : List Token) → IsFaultless before → line_fault before tokens ≡ None → IsFaultless (going_on before tokens)
line_faultless before [] sound is = sound
line_faultless before (token ∷ after) sound is =
    let parts = least_none (token_fault before token) (line_fault (token ∷ before) after) is in
    line_faultless (token ∷ before) after (parts.0, sound) parts.1

lines_faultless : (before : List Token) (number : ℕ) (lines : List Text) → IsFaultless before → fault_from before number lines ≡ None → IsFaultless (tokens_from before lines)
lines_faultless before number [] sound is = sound
lines_faultless before number (line ∷ after) sound is =
    let parts = later_none (line_fault before (tokens_on line)) number (fault_from (going_on before (tokens_on line)) (suc number) after) is in
    lines_faultless (going_on before (tokens_on line)) (suc number) after (line_faultless before (tokens_on line) sound parts.0) parts.1

-- a text without a fault has tokens without one
pub text_faultless : (text : Text) → first_fault text ≡ None → IsFaultless (tokens_of text)
text_faultless text is = lines_faultless [] 1 (lines_of text) tt is

-- ---- the place behind such tokens is known
else_none : (x y : Option OpbFaultKind) → or_else x y ≡ None → (x ≡ None) × (y ≡ None)
else_none None y is = (refl, is)
else_none (Some k) y is = cc

pub record Stands (before : List Token) (token : Token) (place : Option Place) : Type 0 where
  pub next : Place
  pub is : place ≡ Some next
  pub fits : (is_end token && not (statement_fits before)) ≡ false

stands_by : (before : List Token) (token : Token) (next : Place) (b : Bool) → (is_end token && not (statement_fits before)) ≡ b → cond b (Some NumberPast) None ≡ None → Stands before token (Some next)
stands_by before token next true is none = cc
stands_by before token next false is none = record { next = next; is = refl; fits = is }

stands : (before : List Token) (token : Token) (place : Option Place) → standing_fault before token place ≡ None → Stands before token place
stands before token None is = cc
stands before token (Some next) is = stands_by before token next (is_end token && not (statement_fits before)) refl is

stands_at : (before : List Token) (token : Token) (at : Place) → place_of before ≡ Some at → token_fault before token ≡ None → Stands before token (behind at token)
stands_at before token at is sound =
    let own : fault_at (Some at) before token ≡ None = ap (λ (p : Option Place). fault_at p before token) (sym is) ∙ sound in
    stands before token (behind at token) (else_none (plain_fault (ends_in_literal before) token) (place_fault before token (Some at)) own).1

pub placed : (tokens : List Token) → IsFaultless tokens → (at : Place) × (place_of tokens ≡ Some at)
placed [] sound = (Start, refl)
placed (token ∷ before) sound =
    let was = placed before sound.1 in
    let here = stands_at before token was.0 was.1 sound.0 in
    (here.next, ap (λ (o : Option OpbFaultKind). cond (is_none o) (place_behind (place_of before) token) None) sound.0 ∙ ap (λ (p : Option Place). place_behind p token) was.1 ∙ here.is)

-- a statement that ends fits
fit_by : (b : Bool) → not b ≡ false → b ≡ true
fit_by true is = refl
fit_by false is = sym is

pub ended_fits : (before : List Token) → IsFaultless before → token_fault before End ≡ None → statement_fits before ≡ true
ended_fits before sound is = let was = placed before sound in fit_by (statement_fits before) (stands_at before End was.0 was.1 is).fits
