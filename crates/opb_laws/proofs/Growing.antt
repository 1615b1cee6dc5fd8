-- Rows and terms that do not change when others come behind them.
use Rattle.std.proofs.Common.{◌≡◌, ℕ, zero, suc, ◌+◌, ◌<◌, ◌≤◌, ◌⊎◌, inl, inr, List, [], ◌∷◌, ◌++◌, length, length-append, take, true, false, not, filter, refl, sym, ap, ap₂, ◌∙◌, arith, subst}
use Rattle.std.specs.Prelude.{Option}
use Rattle.std.proofs.Math.Seq.{get_or-append_seam}
use Rattle.std.proofs.lemmas.List.{get_or_append_left, take-append-le}
use Rattle.std.proofs.lemmas.Bool.{cases_lt}
use Rattle.fractions.specs.Number.{Number}
use Rattle.lp_model.specs.declared.terms.Term.{Term}
use Rattle.lp_model.specs.declared.program.RowDef.{RowDef}
use Rattle.mps_profile.specs.Texts.{field}
use Rattle.mps_profile.specs.Sides.{sides_of}
use Rattle.mps_profile.specs.Rows.{is_free}
use Rattle.mps_profile.specs.Program.{id_of, kind_at, row_defs_at, rows_below, terms_in, terms_below}
use Rattle.mps_profile.specs.declared.row_kinds.Interval.{Interval}
use Rattle.mps_profile.specs.declared.row_kinds.RowKind.{RowKind}
use Rattle.mps_profile.specs.declared.row_kinds.RowKind.TheVariants.{Free}
use Rattle.mps_profile.specs.declared.row_kinds.RowKind as kinds
use Rattle.opb_text.specs.Words.{Text}
use Rattle.opb_text.specs.Tokens.{Token, Minimum, AtLeast, Equal, End, Number as Numeral, Past, Plain, Negated, Odd}
use Rattle.opb_text.specs.Statements.{row_kinds}

pub rows_same : (names others : List Text) (kinds more : List RowKind) (s t : ℕ → Number) (range : ℕ → Option Interval) (n : ℕ)
    → ((i : ℕ) → i < n → field names i ≡ field others i) → ((i : ℕ) → i < n → kind_at kinds i ≡ kind_at more i) → ((i : ℕ) → i < n → s i ≡ t i)
    → rows_below names kinds s range n ≡ rows_below others more t range n
rows_same names others kinds more s t range zero f g h = refl
rows_same names others kinds more s t range (suc i) f g h =
    ap (λ (rows : List RowDef). rows ++ row_defs_at (field names i) (sides_of (kind_at kinds i) (s i) (range i)))
    (rows_same names others kinds more s t range i (λ k below. f k (omega (arith, below))) (λ k below. g k (omega (arith, below))) (λ k below. h k (omega (arith, below))))
    ∙ ap (λ (name : Text). rows_below others more t range i ++ row_defs_at name (sides_of (kind_at kinds i) (s i) (range i))) (f i (omega arith))
    ∙ ap₂ (λ (kind : RowKind) (side : Number). rows_below others more t range i ++ row_defs_at (field others i) (sides_of kind side (range i))) (g i (omega arith)) (h i (omega arith))

pub terms_same : (kinds more : List RowKind) (f g : ℕ → Number) (n : ℕ)
    → ((i : ℕ) → i < n → kind_at kinds i ≡ kind_at more i) → ((i : ℕ) → i < n → id_of kinds i ≡ id_of more i) → ((i : ℕ) → i < n → f i ≡ g i)
    → terms_below kinds f n ≡ terms_below more g n
terms_same kinds more f g zero k d h = refl
terms_same kinds more f g (suc i) k d h =
    ap (λ (terms : List Term). terms ++ terms_in (kind_at kinds i) (id_of kinds i) (f i))
    (terms_same kinds more f g i (λ l below. k l (omega (arith, below))) (λ l below. d l (omega (arith, below))) (λ l below. h l (omega (arith, below))))
    ∙ ap (λ (kind : RowKind). terms_below more g i ++ terms_in kind (id_of kinds i) (f i)) (k i (omega arith))
    ∙ ap₂ (λ (id : ℕ) (value : Number). terms_below more g i ++ terms_in (kind_at more i) id value) (d i (omega arith)) (h i (omega arith))

-- kinds that come behind change none before
pub kind_kept : (kinds : List RowKind) (kind : RowKind) (i : ℕ) → i < length kinds → kind_at kinds i ≡ kind_at (kinds ++ kind ∷ []) i
kind_kept kinds kind i below = sym (get_or_append_left kinds (kind ∷ []) Free i below)

pub id_kept : (kinds : List RowKind) (kind : RowKind) (i : ℕ) → i ≤ length kinds → id_of kinds i ≡ id_of (kinds ++ kind ∷ []) i
id_kept kinds kind i within = ap (λ (ks : List RowKind). length (filter (λ k. not (is_free k)) ks)) (sym (take-append-le i kinds (kind ∷ []) within))

-- the kinds behind the first are those of constraints
onto_bound : (kinds : List RowKind) (kind : RowKind) (i : ℕ) → is_free kind ≡ false → (i < length kinds → is_free (kind_at kinds i) ≡ false) → i < length (kinds ++ kind ∷ [])
    → is_free (kind_at (kinds ++ kind ∷ []) i) ≡ false
onto_bound kinds kind i bound before below = by (cases_lt i (length kinds))
  where
    by : (i < length kinds) ⊎ (length kinds ≤ i) → is_free (kind_at (kinds ++ kind ∷ []) i) ≡ false
    by (inl early) = ap is_free (sym (kind_kept kinds kind i early)) ∙ before early
    by (inr late) =
        let long = length-append kinds (kind ∷ []) in
        let last : i ≡ length kinds = let one : length (kind ∷ []) ≡ 1 = refl in omega (arith, long, below, late, one) in
        ap (λ (k : ℕ). is_free (kind_at (kinds ++ kind ∷ []) k)) last ∙ ap is_free (get_or-append_seam kinds kind [] Free) ∙ bound

pub later_bound : (tokens : List Token) (i : ℕ) → suc i < length (row_kinds tokens) → is_free (kind_at (row_kinds tokens) (suc i)) ≡ false
later_bound [] i below = absurd (omega (arith, below))
later_bound (Minimum ∷ before) i below = later_bound before i below
later_bound (End ∷ before) i below = later_bound before i below
later_bound (AtLeast ∷ before) i below = onto_bound (row_kinds before) kinds.TheVariants.AtLeast (suc i) refl (later_bound before i) below
later_bound (Equal ∷ before) i below = onto_bound (row_kinds before) kinds.TheVariants.Equal (suc i) refl (later_bound before i) below
later_bound (Numeral value ∷ before) i below = later_bound before i below
later_bound (Past ∷ before) i below = later_bound before i below
later_bound (Plain name ∷ before) i below = later_bound before i below
later_bound (Negated name ∷ before) i below = later_bound before i below
later_bound (Odd ∷ before) i below = later_bound before i below
