-- The parts that cards say give the program that they say.
use Rattle.std.proofs.Common.{◌≡◌, ◌∙◌, ◌<◌, ℕ, zero, suc, List, [], ◌∷◌, ◌++◌, Bool, length, refl, sym, subst, ap, ap₂, arith}
use Rattle.std.proofs.lemmas.List.Elements.{All-head}
use Rattle.std.specs.Prelude.{position, false, Option, None, unwrap_or, slice_index_or}
use Rattle.fractions.specs.Number.{Number, zero_ℚ}
use Rattle.lp_model.specs.ProgramData.{ProgramData}
use Rattle.lp_model.specs.Name.{IsName}
use Rattle.lp_model.specs.Names.{WellNamed, names_of_rows}
use Rattle.lp_model.specs.declared.program.Sense.{Sense}
use Rattle.lp_model.specs.declared.program.ColumnDef.{ColumnDef}
use Rattle.lp_model.specs.declared.program.RowDef.{RowDef}
use Rattle.lp_model.specs.declared.terms.Term.{Term}
use Rattle.mps_profile.specs.Texts.{Text, field}
use Rattle.mps_profile.specs.Cards.{Card}
use Rattle.mps_profile.specs.Sides.{sides_of}
use Rattle.mps_profile.specs.Rows.{row_names, is_free, right_side, range_of}
use Rattle.mps_profile.specs.Columns.{column_names, coefficient, lower_bound, lower_of, lower_under, semi_upper_of, upper_bound}
use Rattle.mps_profile.specs.Program.{kind_at, id_of, terms_in, terms_below, terms_of, rows_below, row_defs, row_defs_at, columns_below, column_def, column_defs, objective_place, program_in}
use Rattle.mps_profile.specs.declared.dialect.Dialect.{Dialect}
use Rattle.mps_profile.specs.declared.row_kinds.Interval.{Interval}
use Rattle.mps_profile.specs.declared.row_kinds.RowKind.{RowKind}
use Rattle.mps_profile.specs.declared.progress.Told.{Told}
use Rattle.mps_stores.specs.Stores.{number_in}
use Rattle.mps_assembly.specs.Assembled.{AreOf}
use Rattle.mps_assembly.specs.Columnwise.{terms_at, cost_at}
use Rattle.mps_assembly.specs.Definitions.{definition}
use Rattle.mps_assembly.specs.declared.assembly.Parts.{Parts}

-- equal rows and columns are named as well
pub named_along : (name objective : Text) (rows row_list : List RowDef) (columns column_list : List ColumnDef) → name ≡ objective → rows ≡ row_list → columns ≡ column_list
    → WellNamed objective row_list column_list → WellNamed name rows columns
named_along name objective rows row_list columns column_list a b c named =
    subst (λ (n : Text). WellNamed n rows columns) (sym a)
    (subst (λ (rs : List RowDef). WellNamed objective rs columns) (sym b) (subst (λ (cs : List ColumnDef). WellNamed objective row_list cs) (sym c) named))

-- equal numbers give equal rows, terms and columns
rows_same : (names : List Text) (kinds : List RowKind) (s t : ℕ → Number) (r q : ℕ → Option Interval) (n : ℕ) → ((i : ℕ) → s i ≡ t i) → ((i : ℕ) → r i ≡ q i)
    → rows_below names kinds s r n ≡ rows_below names kinds t q n
rows_same names kinds s t r q zero h k = refl
rows_same names kinds s t r q (suc i) h k =
    ap (λ (rows : List RowDef). rows ++ row_defs_at (field names i) (sides_of (kind_at kinds i) (s i) (r i))) (rows_same names kinds s t r q i h k)
    ∙ ap (λ (x : Number). rows_below names kinds t q i ++ row_defs_at (field names i) (sides_of (kind_at kinds i) x (r i))) (h i)
    ∙ ap (λ (x : Option Interval). rows_below names kinds t q i ++ row_defs_at (field names i) (sides_of (kind_at kinds i) (t i) x)) (k i)

terms_same : (kinds : List RowKind) (f g : ℕ → Number) (n : ℕ) → ((i : ℕ) → f i ≡ g i) → terms_below kinds f n ≡ terms_below kinds g n
terms_same kinds f g zero h = refl
terms_same kinds f g (suc i) h =
    ap (λ (ts : List Term). ts ++ terms_in (kind_at kinds i) (id_of kinds i) (f i)) (terms_same kinds f g i h)
    ∙ ap (λ (x : Number). terms_below kinds g i ++ terms_in (kind_at kinds i) (id_of kinds i) x) (h i)

columns_same : (f g : ℕ → ColumnDef) (n : ℕ) → ((j : ℕ) → j < n → f j ≡ g j) → columns_below f n ≡ columns_below g n
columns_same f g zero h = refl
columns_same f g (suc j) h =
    ap (λ (columns : List ColumnDef). columns ++ f j ∷ []) (columns_same f g j (λ k below. h k (omega (arith, below))))
    ∙ ap (λ (x : ColumnDef). columns_below g j ++ x ∷ []) (h j (omega arith))

pub place_is : (dialect : Dialect) (cards : List Card) (parts : Parts) → AreOf dialect cards parts → unwrap_or (position is_free parts.rows.kinds.now) 0 ≡ objective_place cards
place_is dialect cards parts are = ap (λ (kinds : List RowKind). unwrap_or (position is_free kinds) 0) are.kinds

-- the objective's row has the name of the program's objective
pub objective_named : (dialect : Dialect) (sense : Told) (cards : List Card) (parts : Parts) → AreOf dialect cards parts
    → WellNamed (program_in dialect sense cards).objective (program_in dialect sense cards).rows (program_in dialect sense cards).columns
    → IsName (field parts.rows.names.now (unwrap_or (position is_free parts.rows.kinds.now) 0))
objective_named dialect sense cards parts are named =
    let same : field parts.rows.names.now (unwrap_or (position is_free parts.rows.kinds.now) 0) ≡ field (row_names cards) (objective_place cards) =
    ap (λ (names : List Text). field names (unwrap_or (position is_free parts.rows.kinds.now) 0)) are.rows ∙ ap (λ (i : ℕ). field (row_names cards) i) (place_is dialect cards parts are) in
    subst IsName (sym same) (All-head IsName (program_in dialect sense cards).objective (names_of_rows (program_in dialect sense cards).rows) named.row_names)

pub side_is : (dialect : Dialect) (cards : List Card) (parts : Parts) (i : ℕ) → AreOf dialect cards parts → unwrap_or (slice_index_or parts.rows.right_sides.now i None) zero_ℚ ≡ right_side dialect cards i
side_is dialect cards parts i are = ap (λ (x : Option Number). unwrap_or x zero_ℚ) (are.sides i)

pub number_is : (dialect : Dialect) (cards : List Card) (parts : Parts) (j i : ℕ) → AreOf dialect cards parts → unwrap_or (number_in parts.entries.now i j) zero_ℚ ≡ coefficient dialect cards j i
number_is dialect cards parts j i are = ap (λ (x : Option Number). unwrap_or x zero_ℚ) (are.entries j i)

pub rows_are : (dialect : Dialect) (cards : List Card) (parts : Parts) → AreOf dialect cards parts
    → rows_below parts.rows.names.now parts.rows.kinds.now (λ i. unwrap_or (slice_index_or parts.rows.right_sides.now i None) zero_ℚ) (λ i. slice_index_or parts.rows.ranges.now i None) (length parts.rows.names.now)
    ≡ row_defs dialect cards (length (row_names cards))
rows_are dialect cards parts are =
    rows_same parts.rows.names.now parts.rows.kinds.now (λ i. unwrap_or (slice_index_or parts.rows.right_sides.now i None) zero_ℚ) (right_side dialect cards) (λ i. slice_index_or parts.rows.ranges.now i None) (range_of dialect cards)
    (length parts.rows.names.now) (λ i. side_is dialect cards parts i are) are.ranges
    ∙ ap (λ (names : List Text). rows_below names parts.rows.kinds.now (right_side dialect cards) (range_of dialect cards) (length names)) are.rows
    ∙ ap (λ (kinds : List RowKind). rows_below (row_names cards) kinds (right_side dialect cards) (range_of dialect cards) (length (row_names cards))) are.kinds

pub terms_are : (dialect : Dialect) (cards : List Card) (parts : Parts) (j : ℕ) → AreOf dialect cards parts
    → terms_below parts.rows.kinds.now (λ i. unwrap_or (number_in parts.entries.now i j) zero_ℚ) (length parts.rows.names.now) ≡ terms_of dialect cards j (length (row_names cards))
terms_are dialect cards parts j are =
    terms_same parts.rows.kinds.now (λ i. unwrap_or (number_in parts.entries.now i j) zero_ℚ) (coefficient dialect cards j) (length parts.rows.names.now) (λ i. number_is dialect cards parts j i are)
    ∙ ap (λ (names : List Text). terms_below parts.rows.kinds.now (coefficient dialect cards j) (length names)) are.rows
    ∙ ap (λ (kinds : List RowKind). terms_below kinds (coefficient dialect cards j) (length (row_names cards))) are.kinds

pub column_is : (dialect : Dialect) (cards : List Card) (parts : Parts) (j : ℕ) (cost : Number) (terms : List Term) → AreOf dialect cards parts
    → cost ≡ coefficient dialect cards j (objective_place cards) → terms ≡ terms_of dialect cards j (length (row_names cards)) → definition parts.columns j cost terms ≡ column_def dialect cards j
column_is dialect cards parts j cost terms are priced termed =
    let name : field parts.columns.names.now j ≡ field (column_names cards) j = ap (λ (names : List Text). field names j) are.columns in
    let upper : unwrap_or (slice_index_or parts.columns.uppers.now j None) None ≡ upper_bound dialect cards j = ap (λ (x : Option (Option Number)). unwrap_or x None) (are.uppers j) in
    let semi_upper : unwrap_or (slice_index_or parts.columns.semi_uppers.now j None) false ≡ unwrap_or (semi_upper_of dialect cards j) false = ap (λ (x : Option Bool). unwrap_or x false) (are.semi_uppers j) in
    let low : unwrap_or (slice_index_or parts.columns.lowers.now j None) (lower_under (unwrap_or (slice_index_or parts.columns.semi_uppers.now j None) false) (unwrap_or (slice_index_or parts.columns.uppers.now j None) None)) ≡ lower_bound dialect cards j =
    ap (λ (x : Option (Option Number)). unwrap_or x (lower_under (unwrap_or (slice_index_or parts.columns.semi_uppers.now j None) false) (unwrap_or (slice_index_or parts.columns.uppers.now j None) None))) (are.lowers j)
    ∙ ap₂ (λ (b : Bool) (x : Option Number). unwrap_or (lower_of dialect cards j) (lower_under b x)) semi_upper upper in
    let whole = are.wholes j in
    let semi = are.semis j in
    built name priced low upper whole semi termed
  where
    column : Text → Number → Option Number → Option Number → Bool → Bool → List Term → ColumnDef
    column name cost lower upper whole semi entries = record { name = name; cost = cost; lower = lower; upper = upper; whole = whole; semi = semi; entries = entries }

    built : {n m : Text} {c d : Number} {l k u v : Option Number} {w x s t : Bool} {ts us : List Term} → n ≡ m → c ≡ d → l ≡ k → u ≡ v → w ≡ x → s ≡ t → ts ≡ us → column n c l u w s ts ≡ column m d k v x t us
    built a b c d e f g = cc

pub columns_are : (dialect : Dialect) (cards : List Card) (parts : Parts) (objective : ℕ) (costs : List Number) (terms : List (List Term)) → AreOf dialect cards parts
    → objective ≡ objective_place cards
    → ((j : ℕ) → j < length parts.columns.names.now → cost_at costs j ≡ unwrap_or (number_in parts.entries.now objective j) zero_ℚ)
    → ((j : ℕ) → j < length parts.columns.names.now → terms_at terms j ≡ terms_below parts.rows.kinds.now (λ i. unwrap_or (number_in parts.entries.now i j) zero_ℚ) (length parts.rows.names.now))
    → columns_below (λ j. definition parts.columns j (cost_at costs j) (terms_at terms j)) (length parts.columns.names.now) ≡ column_defs dialect cards (length (column_names cards))
columns_are dialect cards parts objective costs terms are place priced termed =
    columns_same (λ j. definition parts.columns j (cost_at costs j) (terms_at terms j)) (column_def dialect cards) (length parts.columns.names.now)
    (λ j below. column_is dialect cards parts j (cost_at costs j) (terms_at terms j) are
    (priced j below ∙ number_is dialect cards parts j objective are ∙ ap (λ (i : ℕ). coefficient dialect cards j i) place)
    (termed j below ∙ terms_are dialect cards parts j are))
    ∙ ap (λ (names : List Text). columns_below (column_def dialect cards) (length names)) are.columns

abbrev pub made : Sense → Text → Number → List RowDef → List ColumnDef → ProgramData
made sense objective constant rows columns = record { sense = sense; objective = objective; constant = constant; rows = rows; columns = columns }

pub program_is : {s t : Sense} {n m : Text} {c d : Number} {r q : List RowDef} {k l : List ColumnDef} → s ≡ t → n ≡ m → c ≡ d → r ≡ q → k ≡ l → made s n c r k ≡ made t m d q l
program_is a b e f g = cc
