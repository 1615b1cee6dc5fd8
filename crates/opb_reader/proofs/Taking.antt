-- A token that is taken.
use Rattle.std.proofs.Common.{◌≡◌, ℕ, suc, List, [], ◌∷◌, ◌++◌, length, length-append, add-one, Bool, true, false, cond, not, ◌&&◌, Option, Some, None, is_none, refl, sym, ap, ap₂, ◌∙◌, subst}
use Rattle.mps_profile.specs.declared.row_kinds.RowKind.{RowKind}
use Rattle.opb_text.specs.Tokens.{AtLeast, End, Equal, Minimum, Negated, Number, Odd, Past, Plain, Token}
use Rattle.opb_text.specs.Places.{behind}
use Rattle.opb_text.specs.Statements.{open_row, row_kinds, statement_fits}
use Rattle.opb_text.specs.Reading.{fault_at, is_end, or_else, place_behind, place_of, plain_fault, standing_fault, token_fault}
use Rattle.opb_text.specs.declared.faults.OpbFaultKind.{OpbFaultKind}
use Rattle.opb_text.specs.declared.faults.OpbFaultKind.TheVariants.{NumberPast}
use Rattle.opb_text.specs.declared.places.Place.{Place}
use Rattle.opb_text.specs.declared.places.Place as places
use Rattle.opb_text.specs.declared.places.Place.TheVariants.{Between, CostLiteral, CostNumber, Literal, Relation, RightSide, Start}
use Rattle.opb_reader.specs.Holding.{Holds, IsSilent}
use Rattle.opb_reader.specs.Shapes.{IsShaped, kinds_behind, row_behind}
use Rattle.opb_reader.specs.declared.reader.Reader.{Reader}

-- the fault of a token that has none by itself
pub fault_by : (tokens : List Token) (token : Token) (reader : Reader) (next : Option Place) → Holds tokens reader → plain_fault reader.after_literal token ≡ None → next ≡ behind reader.place token
    → token_fault tokens token ≡ standing_fault tokens token next
fault_by tokens token reader next h plain is =
    ap (λ (p : Option Place). fault_at p tokens token) h.place
    ∙ ap₂ (λ (f : Option OpbFaultKind) (o : Option Place). or_else f (standing_fault tokens token o)) (ap (λ (b : Bool). plain_fault b token) (sym h.literal) ∙ plain) (sym is)

-- and of one that has
pub plain_by : (tokens : List Token) (token : Token) (reader : Reader) (kind : OpbFaultKind) → Holds tokens reader → plain_fault reader.after_literal token ≡ Some kind → token_fault tokens token ≡ Some kind
plain_by tokens token reader kind h plain =
    ap (λ (p : Option Place). fault_at p tokens token) h.place
    ∙ ap (λ (f : Option OpbFaultKind). or_else f (standing_fault tokens token (behind reader.place token))) (ap (λ (b : Bool). plain_fault b token) (sym h.literal) ∙ plain)

not_false : (b : Bool) → false ≡ not b → b ≡ true
not_false true e = refl
not_false false e = e

not_true : (b : Bool) → true ≡ not b → b ≡ false
not_true true e = e
not_true false e = refl

pub not_heard : (tokens : List Token) (token : Token) (next : Place) → false ≡ not (is_end token && not (statement_fits tokens)) → standing_fault tokens token (Some next) ≡ Some NumberPast
not_heard tokens token next heard = ap (λ (b : Bool). cond b (Some NumberPast) None) (not_false _ heard)

pub well_heard : (tokens : List Token) (token : Token) (next : Place) → true ≡ not (is_end token && not (statement_fits tokens)) → standing_fault tokens token (Some next) ≡ None
well_heard tokens token next heard = ap (λ (b : Bool). cond b (Some NumberPast) None) (not_true _ heard)

-- ---- the shape behind a token
ended : (place next : Place) → behind place End ≡ Some next → next ≡ Between
ended Start next e = cc
ended Between next e = cc
ended places.TheVariants.Minimum next e = cc
ended CostNumber next e = cc
ended CostLiteral next e = cc
ended places.TheVariants.Number next e = cc
ended Literal next e = cc
ended Relation next e = cc
ended RightSide next e = cc

one_kind : (kinds : List RowKind) (kind : RowKind) → length (kinds ++ kind ∷ []) ≡ suc (length kinds)
one_kind kinds kind = length-append kinds (kind ∷ []) ∙ add-one (length kinds)

pub shaped_on : (tokens : List Token) (token : Token) (place next : Place) → behind place token ≡ Some next
    → IsShaped next (row_behind token (open_row tokens)) (kinds_behind token (length (row_kinds tokens))) (IsSilent tokens)
    → IsShaped next (open_row (token ∷ tokens)) (length (row_kinds (token ∷ tokens))) (IsSilent (token ∷ tokens))
shaped_on tokens Minimum place next is shape = shape
shaped_on tokens AtLeast place next is shape = subst (λ (n : ℕ). IsShaped next (open_row tokens) n (IsSilent tokens)) (sym (one_kind (row_kinds tokens) _)) shape
shaped_on tokens Equal place next is shape = subst (λ (n : ℕ). IsShaped next (open_row tokens) n (IsSilent tokens)) (sym (one_kind (row_kinds tokens) _)) shape
shaped_on tokens End place next is shape =
    let last = ended place next is in
    subst (λ (p : Place). IsShaped p (suc (open_row tokens)) (length (row_kinds tokens)) (IsSilent (End ∷ tokens))) (sym last)
    (subst (λ (p : Place). IsShaped p (suc (open_row tokens)) (length (row_kinds tokens)) (IsSilent tokens)) last shape)
shaped_on tokens (Number value) place next is shape = shape
shaped_on tokens Past place next is shape = shape
shaped_on tokens (Plain name) place next is shape = shape
shaped_on tokens (Negated name) place next is shape = shape
shaped_on tokens Odd place next is shape = shape

pub place_on : (tokens : List Token) (token : Token) (place next : Place) → place_of tokens ≡ Some place → behind place token ≡ Some next → token_fault tokens token ≡ None → place_of (token ∷ tokens) ≡ Some next
place_on tokens token place next here is sound =
    ap₂ (λ (f : Option OpbFaultKind) (p : Option Place). cond (is_none f) (place_behind p token) None) sound here ∙ is
