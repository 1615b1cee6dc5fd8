-- The lesser of faults.
use Rattle.std.proofs.Common.{◌≡◌, Bool, Option, Some, None, refl, sym, ap, ap₂, ◌∙◌, arith}
use Rattle.std.specs.Prelude.{List, ◌∷◌}
use Rattle.std.proofs.lemmas.Bool.Decides.{nat_tests}
use Rattle.opb_text.specs.Words.{Text}
use Rattle.opb_text.specs.Tokens.{Token, token_of}
use Rattle.opb_text.specs.Reading.{is_literal, plain_fault}
use Rattle.opb_reader.specs.Later.{later_fault}
use Rattle.opb_text.specs.Faults.{least, lesser}
use Rattle.opb_text.specs.declared.faults.OpbFaultKind.{OpbFaultKind}

pub lesser_lesser : (a b c : OpbFaultKind) → lesser a (lesser b c) ≡ lesser (lesser a b) c
lesser_lesser a b c = grind (arith, nat_tests)

pub least_least : (kind : OpbFaultKind) (x y : Option OpbFaultKind) → least (Some kind) (least x y) ≡ least (least (Some kind) x) y
least_least kind None y = refl
least_least kind (Some a) None = refl
least_least kind (Some a) (Some b) = ap Some (lesser_lesser kind a b)

-- the least of what is known and of what is to come stays
pub goes_on : (kind next : OpbFaultKind) (fault : Option OpbFaultKind) (token : Token) (before after : Bool) (words ws : List Text) (word : Text) → words ≡ word ∷ ws → token ≡ token_of word
    → fault ≡ plain_fault before token → Some next ≡ least (Some kind) fault → after ≡ is_literal token → least (Some next) (later_fault after ws) ≡ least (Some kind) (later_fault before words)
goes_on kind next fault token before after words ws word is read told found literal =
    ap₂ (λ (k : Option OpbFaultKind) (b : Bool). least k (later_fault b ws)) (found ∙ ap (least (Some kind)) (told ∙ ap (plain_fault before) read)) (literal ∙ ap is_literal read)
    ∙ sym (least_least kind (plain_fault before (token_of word)) (later_fault (is_literal (token_of word)) ws))
    ∙ sym (ap (λ (xs : List Text). least (Some kind) (later_fault before xs)) is)
