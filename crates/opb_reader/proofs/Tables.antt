-- Columns that are held when a token comes.
use Rattle.std.proofs.Common.{◌≡◌, ◌≢◌, ℕ, zero, suc, ◌<◌, ◌≤◌, ℤ, pos, List, [], ◌∷◌, ◌++◌, length, Bool, true, false, cond, None, refl, sym, ap, ap₂, ◌∙◌, arith, eq-eqb}
use Rattle.std.specs.Prelude.{◌||◌}
use Rattle.std.proofs.lemmas.Bool.{ne_eqb}
use Rattle.fractions.specs.Number.{Number, of_ℤ, zero_ℚ}
use Rattle.fractions.specs.Compare.{eq_ℚ}
use Rattle.fractions.specs.Comparisons.{eq_ℚ-is}
use Rattle.lp_model.specs.declared.terms.Term.{Term}
use Rattle.names.specs.Names.{place}
use Rattle.mps_profile.specs.Texts.{Text}
use Rattle.mps_profile.specs.Rows.{is_free}
use Rattle.mps_profile.specs.Program.{id_of, kind_at, terms_below, terms_in}
use Rattle.mps_profile.specs.declared.row_kinds.RowKind.{RowKind}
use Rattle.mps_profile.specs.declared.row_kinds.RowKind as row_kind
use Rattle.mps_assembly.specs.Columnwise.{number_terms}
use Rattle.opb_text.specs.Tokens.{AtLeast, End, Equal, Minimum, Token}
use Rattle.opb_text.specs.Statements as statements
use Rattle.opb_text.specs.Statements.{open_row, open_terms, row_kinds, sum_at}
use Rattle.opb_text.specs.Columns.{coefficient, column_names}
use Rattle.opb_laws.proofs.Growing.{id_kept, kind_kept, later_bound, terms_same}
use Rattle.opb_laws.proofs.Unnamed.{unsaid}
use Rattle.opb_laws.proofs.Writing.{first_free}
use Rattle.opb_columns.specs.Holding.{Hold, IsUnsaid}
use Rattle.opb_columns.specs.declared.columns.Columns.{Columns}
use Rattle.opb_reader.specs.Holding.{entries_in, HoldColumns, IsSilent}

-- equal costs and terms are held as well
pub hold_as : (names : List Text) (cost price : Text → ℤ) (entries more : Text → List Term) (summed : List statements.Term) (columns : Columns) → Hold names cost entries summed columns
    → ((name : Text) → cost name ≡ price name) → ((name : Text) → entries name ≡ more name) → Hold names price more summed columns
hold_as names cost price entries more summed columns h costs terms = record {
  named = h.named;
  costs_count = h.costs_count;
  costs = λ j below. h.costs j below ∙ ap of_ℤ (costs _);
  terms_count = h.terms_count;
  terms = λ j below. h.terms j below ∙ terms _;
  sums = h.sums;
}

-- row 0 has no terms in the program
none_first : (kinds : List RowKind) (number : ℕ → Number) → kind_at kinds 0 ≡ row_kind.TheVariants.Free → terms_below kinds number 1 ≡ []
none_first kinds number free = ap (λ (kind : RowKind). [] ++ terms_in kind (id_of kinds 0) (number 0)) free

pub minimum_comes : (tokens : List Token) (columns : Columns) → HoldColumns tokens columns → open_row tokens ≡ 1 → HoldColumns (Minimum ∷ tokens) columns
minimum_comes tokens columns h first =
    hold_as _ _ (λ name. coefficient (Minimum ∷ tokens) 0 name) _ (λ name. entries_in (Minimum ∷ tokens) name) _ columns h (λ name. refl)
    (λ name. ap (λ (n : ℕ). terms_below (row_kinds tokens) (λ i. of_ℤ (coefficient tokens i name)) n) first ∙ none_first (row_kinds tokens) (λ i. of_ℤ (coefficient tokens i name)) (first_free tokens))

related : (kinds : List RowKind) (kind : RowKind) (number : ℕ → Number) (n : ℕ) → n ≤ length kinds → terms_below kinds number n ≡ terms_below (kinds ++ kind ∷ []) number n
related kinds kind number n within =
    terms_same kinds (kinds ++ kind ∷ []) number number n (λ i below. kind_kept kinds kind i (omega (arith, below, within))) (λ i below. id_kept kinds kind i (omega (arith, below, within))) (λ i below. refl)

pub at_least_comes : (tokens : List Token) (columns : Columns) → HoldColumns tokens columns → length (row_kinds tokens) ≡ open_row tokens → HoldColumns (AtLeast ∷ tokens) columns
at_least_comes tokens columns h shape =
    hold_as _ _ (λ name. coefficient (AtLeast ∷ tokens) 0 name) _ (λ name. entries_in (AtLeast ∷ tokens) name) _ columns h (λ name. refl)
    (λ name. related (row_kinds tokens) row_kind.TheVariants.AtLeast _ (open_row tokens) (omega (arith, shape)))

pub equal_comes : (tokens : List Token) (columns : Columns) → HoldColumns tokens columns → length (row_kinds tokens) ≡ open_row tokens → HoldColumns (Equal ∷ tokens) columns
equal_comes tokens columns h shape =
    hold_as _ _ (λ name. coefficient (Equal ∷ tokens) 0 name) _ (λ name. entries_in (Equal ∷ tokens) name) _ columns h (λ name. refl)
    (λ name. related (row_kinds tokens) row_kind.TheVariants.Equal _ (open_row tokens) (omega (arith, shape)))

-- a name that is new
none_below : (kinds : List RowKind) (number : ℕ → Number) (n : ℕ) → ((i : ℕ) → number i ≡ zero_ℚ) → terms_below kinds number n ≡ []
none_below kinds number zero zeros = refl
none_below kinds number (suc i) zeros = ap₂ (λ (xs ys : List Term). xs ++ ys) (none_below kinds number i zeros) (one (is_free (kind_at kinds i)) (kind_at kinds i) refl)
  where
    one : (free : Bool) (kind : RowKind) → is_free kind ≡ free → terms_in kind (id_of kinds i) (number i) ≡ []
    one true kind is = ap (λ (b : Bool). cond (b || eq_ℚ (number i) zero_ℚ) [] (record { id = id_of kinds i; value = number i } ∷ [])) is
    one false kind is =
        ap (λ (b : Bool). cond (b || eq_ℚ (number i) zero_ℚ) [] (record { id = id_of kinds i; value = number i } ∷ [])) is
        ∙ ap (λ (b : Bool). cond b [] (record { id = id_of kinds i; value = number i } ∷ [])) ((eq_ℚ-is (number i) zero_ℚ).1 (zeros i))

pub new_name : (tokens : List Token) (name : Text) → place name (column_names tokens) ≡ None
    → IsUnsaid name (λ text. coefficient tokens 0 text) (λ text. entries_in tokens text) (open_terms tokens)
new_name tokens name none =
    let said = unsaid tokens name none in
    record { no_cost = said.coefficients 0; no_entries = none_below (row_kinds tokens) _ (open_row tokens) (λ i. ap of_ℤ (said.coefficients i)); no_sum = said.sum }

-- ---- ends
pub costs_end : (tokens : List Token) (columns : Columns) → open_row tokens ≡ 0 → Hold (column_names tokens) (λ name. sum_at name (open_terms tokens)) (λ name. entries_in tokens name) [] columns
    → HoldColumns (End ∷ tokens) columns
costs_end tokens columns none h =
    hold_as _ _ (λ name. coefficient (End ∷ tokens) 0 name) _ (λ name. entries_in (End ∷ tokens) name) [] columns h
    (λ name. sym (ap (λ (b : Bool). cond b (sum_at name (open_terms tokens)) (coefficient tokens 0 name)) (eq-eqb (open_row tokens) 0 none)))
    (λ name. ap (λ (n : ℕ). terms_below (row_kinds tokens) (λ i. of_ℤ (coefficient tokens i name)) n) none
    ∙ sym (ap (λ (n : ℕ). terms_below (row_kinds tokens) (λ i. of_ℤ (coefficient (End ∷ tokens) i name)) (suc n)) none ∙ none_first (row_kinds tokens) (λ i. of_ℤ (coefficient (End ∷ tokens) i name)) (first_free tokens)))

pub silent_costs : (tokens : List Token) (columns : Columns) → HoldColumns tokens columns → IsSilent tokens
    → Hold (column_names tokens) (λ name. pos 0) (λ name. entries_in tokens name) (open_terms tokens) columns
silent_costs tokens columns h silent = hold_as _ _ (λ name. pos 0) _ (λ name. entries_in tokens name) _ columns h (λ name. silent 0 name) (λ name. refl)

-- a constraint's terms come behind the others
bound_terms : (kind : RowKind) (id : ℕ) (value : Number) → is_free kind ≡ false → terms_in kind id value ≡ number_terms id value
bound_terms kind id value bound = ap (λ (b : Bool). cond (b || eq_ℚ value zero_ℚ) [] (record { id = id; value = value } ∷ [])) bound

kind_bound : (tokens : List Token) (r : ℕ) → r ≢ 0 → r < length (row_kinds tokens) → is_free (kind_at (row_kinds tokens) r) ≡ false
kind_bound tokens zero some below = absurd (some refl)
kind_bound tokens (suc i) some below = later_bound tokens i below

pub constraint_ends : (tokens : List Token) (id : ℕ) (columns : Columns) → open_row tokens ≢ 0 → length (row_kinds tokens) ≡ suc (open_row tokens) → id ≡ id_of (row_kinds tokens) (open_row tokens)
    → Hold (column_names tokens) (λ name. coefficient tokens 0 name) (λ name. entries_in tokens name ++ number_terms id (of_ℤ (sum_at name (open_terms tokens)))) [] columns
    → HoldColumns (End ∷ tokens) columns
constraint_ends tokens id columns some shape is h =
    hold_as _ _ (λ name. coefficient (End ∷ tokens) 0 name) _ (λ name. entries_in (End ∷ tokens) name) [] columns h
    (λ name. sym (ap (λ (b : Bool). cond b (sum_at name (open_terms tokens)) (coefficient tokens 0 name)) (ne_eqb (open_row tokens) 0 some)))
    (λ name. sym (ended name))
  where
    kinds_in : List RowKind
    kinds_in = row_kinds tokens

    r : ℕ
    r = open_row tokens

    earlier : (name : Text) (i : ℕ) → i < r → of_ℤ (coefficient (End ∷ tokens) i name) ≡ of_ℤ (coefficient tokens i name)
    earlier name i below = ap of_ℤ (ap (λ (b : Bool). cond b (sum_at name (open_terms tokens)) (coefficient tokens i name)) (ne_eqb r i (λ e. omega (arith, e, below))))

    here : (name : Text) → coefficient (End ∷ tokens) r name ≡ sum_at name (open_terms tokens)
    here name = ap (λ (b : Bool). cond b (sum_at name (open_terms tokens)) (coefficient tokens r name)) (eq-eqb r r refl)

    ended : (name : Text) → entries_in (End ∷ tokens) name ≡ entries_in tokens name ++ number_terms id (of_ℤ (sum_at name (open_terms tokens)))
    ended name =
        ap₂ (λ (xs ys : List Term). xs ++ ys)
        (terms_same kinds_in kinds_in (λ i. of_ℤ (coefficient (End ∷ tokens) i name)) (λ i. of_ℤ (coefficient tokens i name)) r (λ i below. refl) (λ i below. refl) (earlier name))
        (bound_terms (kind_at kinds_in r) (id_of kinds_in r) (of_ℤ (coefficient (End ∷ tokens) r name)) (kind_bound tokens r some (omega (arith, shape)))
        ∙ ap₂ (λ (n : ℕ) (z : ℤ). number_terms n (of_ℤ z)) (sym is) (here name))
