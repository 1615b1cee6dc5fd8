-- The numbers of a column give its terms again.
use Rattle.std.proofs.Common.{◌≡◌, ℕ, zero, suc, ◌<◌, ◌≤◌, ◌==◌, inl, inr, ◌⊎◌, List, [], ◌∷◌, ◌++◌, map, length, take, ltb, not, ◌&&◌, ◌||◌, Bool, true, false, cond, Option, Some, None, unwrap_or, refl, sym, ap, ap₂, ◌∙◌, arith, filter}
use Rattle.std.proofs.lemmas.Bool.{lt-ltb, le-ltb, eq-eqb, ne_eqb, cases_order, and_parts, false_from_ne_true}
use Rattle.fractions.specs.Number.{Number, zero_ℚ}
use Rattle.fractions.specs.Compare.{eq_ℚ}
use Rattle.fractions.specs.Comparisons.{eq_ℚ-is}
use Rattle.lp_model.specs.declared.program.RowDef.{RowDef}
use Rattle.lp_model.specs.declared.program.ColumnDef.{ColumnDef}
use Rattle.lp_model.specs.declared.terms.Term.{Term}
use Rattle.lp_model.specs.Sparse.{Ascends}
use Rattle.mps_profile.specs.Rows.{is_free}
use Rattle.mps_profile.specs.Program.{kind_at, terms_below}
use Rattle.mps_profile.specs.declared.row_kinds.RowKind.{RowKind}
use Rattle.mps_profile.specs.declared.row_kinds.RowKind as kinds
use Rattle.mps_writer.specs.declared.rows.RowType.{RowType}
use Rattle.mps_writer.specs.declared.rows.RowType.TheVariants.{Equal, AtMost, AtLeast}
use Rattle.mps_writer.specs.Sections.{type_by}
use Rattle.mps_written_lines.specs.Written.{cost_terms, moved, all_terms}
use Rattle.mps_written_cards.proofs.RowCards.{kind_by, kind_of}
use Rattle.mps_written_cards.proofs.EntryCards.{latest}
use Rattle.mps_written_cards.proofs.ColumnCards.{eqb_more}

latest_append : (xs ys : List Term) (i : ℕ) (o : Option Number) → latest (xs ++ ys) i o ≡ latest ys i (latest xs i o)
latest_append [] ys i o = refl
latest_append (x ∷ xs) ys i o = latest_append xs ys i (cond (x.id == i) (Some x.value) o)

latest_first : (ts : List Term) (o : Option Number) → latest (map moved ts) 0 o ≡ o
latest_first [] o = refl
latest_first (t ∷ ts) o =
    ap (λ (b : Bool). latest (map moved ts) 0 (cond b (Some t.value) o)) (ne_eqb (suc t.id) 0 (λ e. omega (arith, e))) ∙ latest_first ts o

latest_moved : (ts : List Term) (k : ℕ) (o : Option Number) → latest (map moved ts) (suc k) o ≡ latest ts k o
latest_moved [] k o = refl
latest_moved (t ∷ ts) k o =
    ap (λ (b : Bool). latest (map moved ts) (suc k) (cond b (Some t.value) o)) (eqb_more t.id k) ∙ latest_moved ts k (cond (t.id == k) (Some t.value) o)

-- the cost is the number at the objective
pub cost_is : (c : ColumnDef) → unwrap_or (latest (all_terms c) 0 None) zero_ℚ ≡ c.cost
cost_is c =
    ap (λ (o : Option Number). unwrap_or o zero_ℚ) (latest_append (cost_terms c) (map moved c.entries) 0 None ∙ latest_first c.entries (latest (cost_terms c) 0 None))
    ∙ by_test (eq_ℚ c.cost zero_ℚ && not (length c.entries == 0)) refl
  where
    by_test : (b : Bool) → (eq_ℚ c.cost zero_ℚ && not (length c.entries == 0)) ≡ b → unwrap_or (latest (cond b [] (record { id = 0; value = c.cost } ∷ [])) 0 None) zero_ℚ ≡ c.cost
    by_test true is = sym ((eq_ℚ-is c.cost zero_ℚ).0 (and_parts (eq_ℚ c.cost zero_ℚ) (not (length c.entries == 0)) is).0)
    by_test false is = refl

-- the other numbers are those of the entries
pub entry_is : (c : ColumnDef) (k : ℕ) → latest (all_terms c) (suc k) None ≡ latest c.entries k None
entry_is c k =
    latest_append (cost_terms c) (map moved c.entries) (suc k) None
    ∙ ap (latest (map moved c.entries) (suc k)) (by_test (eq_ℚ c.cost zero_ℚ && not (length c.entries == 0)))
    ∙ latest_moved c.entries k None
  where
    by_test : (b : Bool) → latest (cond b [] (record { id = 0; value = c.cost } ∷ [])) (suc k) None ≡ None
    by_test true = refl
    by_test false = ap (λ (b : Bool). cond b (Some c.cost) None) (ne_eqb 0 (suc k) (λ e. omega (arith, e)))

-- the terms with places below k
abbrev below : ℕ → List Term → List Term
below k ts = filter (λ (t : Term). ltb t.id k) ts

below_none : (m n k : ℕ) (ts : List Term) → Ascends m n ts → k ≤ m → below k ts ≡ []
below_none m n k [] all le = refl
below_none m n k (t ∷ ts) all le =
    ap (λ (b : Bool). cond b (t ∷ below k ts) (below k ts)) (le-ltb t.id k (omega (arith, all.0, le))) ∙ below_none (suc t.id) n k ts all.3 (omega (arith, all.0, le))

below_all : (m n : ℕ) (ts : List Term) → Ascends m n ts → below n ts ≡ ts
below_all m n [] all = refl
below_all m n (t ∷ ts) all =
    ap (λ (b : Bool). cond b (t ∷ below n ts) (below n ts)) (lt-ltb t.id n all.1) ∙ ap (λ (us : List Term). t ∷ us) (below_all (suc t.id) n ts all.3)

latest_none : (m n k : ℕ) (ts : List Term) (o : Option Number) → Ascends m n ts → k < m → latest ts k o ≡ o
latest_none m n k [] o all lt = refl
latest_none m n k (t ∷ ts) o all lt =
    ap (λ (b : Bool). latest ts k (cond b (Some t.value) o)) (ne_eqb t.id k (λ e. omega (arith, e, all.0, lt))) ∙ latest_none (suc t.id) n k ts o all.3 (omega (arith, all.0, lt))

abbrev term_of : ℕ → Number → Term
term_of k value = record { id = k; value = value }

-- the term of a number at a place, unless it is 0
abbrev term_at : ℕ → Number → List Term
term_at k value = cond (eq_ℚ value zero_ℚ) [] (record { id = k; value = value } ∷ [])

zero_none : (k : ℕ) → term_at k zero_ℚ ≡ []
zero_none k = ap (λ (b : Bool). cond b [] (record { id = k; value = zero_ℚ } ∷ [])) ((eq_ℚ-is zero_ℚ zero_ℚ).1 refl)

below_next : (m n k : ℕ) (ts : List Term) → Ascends m n ts → below (suc k) ts ≡ below k ts ++ term_at k (unwrap_or (latest ts k None) zero_ℚ)
below_next m n k [] all = sym (zero_none k)
below_next m n k (t ∷ ts) all = by_order (below_next (suc t.id) n k ts all.3) (cases_order t.id k)
  where
    keeps : (j : ℕ) → t.id < j → below j (t ∷ ts) ≡ t ∷ below j ts
    keeps j lt = ap (λ (b : Bool). cond b (t ∷ below j ts) (below j ts)) (lt-ltb t.id j lt)

    drops : (j : ℕ) → j ≤ t.id → below j (t ∷ ts) ≡ []
    drops j le = below_none t.id n j (t ∷ ts) (omega arith, all.1, all.2, all.3) le

    other : (t.id ≡ k → ⊥) → latest (t ∷ ts) k None ≡ latest ts k None
    other differ = ap (λ (b : Bool). latest ts k (cond b (Some t.value) None)) (ne_eqb t.id k differ)

    by_order : below (suc k) ts ≡ below k ts ++ term_at k (unwrap_or (latest ts k None) zero_ℚ) → (t.id ≡ k) ⊎ ((t.id < k) ⊎ (k < t.id)) → below (suc k) (t ∷ ts) ≡ below k (t ∷ ts) ++ term_at k (unwrap_or (latest (t ∷ ts) k None) zero_ℚ)
    by_order later (inl same) =
        let value : latest (t ∷ ts) k None ≡ Some t.value =
        ap (λ (b : Bool). latest ts k (cond b (Some t.value) None)) (eq-eqb t.id k same) ∙ latest_none (suc t.id) n k ts (Some t.value) all.3 (omega (arith, same)) in
        let unit : term_at k t.value ≡ t ∷ [] =
        ap (λ (b : Bool). cond b [] (record { id = k; value = t.value } ∷ [])) (false_from_ne_true _ (λ e. all.2 ((eq_ℚ-is t.value zero_ℚ).0 e)))
        ∙ ap (λ (i : ℕ). term_of i t.value ∷ []) (sym same) in
        keeps (suc k) (omega (arith, same)) ∙ ap (λ (us : List Term). t ∷ us) (below_none (suc t.id) n (suc k) ts all.3 (omega (arith, same)))
        ∙ sym (ap₂ (λ (us vs : List Term). us ++ vs) (drops k (omega (arith, same))) (ap (λ (o : Option Number). term_at k (unwrap_or o zero_ℚ)) value ∙ unit))
    by_order later (inr (inl under)) =
        keeps (suc k) (omega (arith, under)) ∙ ap (λ (us : List Term). t ∷ us) later
        ∙ sym (ap₂ (λ (us vs : List Term). us ++ vs) (keeps k under) (ap (λ (o : Option Number). term_at k (unwrap_or o zero_ℚ)) (other (λ e. omega (arith, e, under)))))
    by_order later (inr (inr over)) =
        drops (suc k) (omega (arith, over))
        ∙ sym (ap₂ (λ (us vs : List Term). us ++ vs) (drops k (omega (arith, over)))
        (ap (λ (o : Option Number). term_at k (unwrap_or o zero_ℚ)) (other (λ e. omega (arith, e, over)) ∙ latest_none (suc t.id) n k ts None all.3 (omega (arith, over))) ∙ zero_none k))

not_free : (type : RowType) → is_free (kind_by type) ≡ false
not_free Equal = refl
not_free AtMost = refl
not_free AtLeast = refl

-- only the objective is an N row
kinds_count : (rows : List RowDef) (k : ℕ) → k ≤ length rows → length (filter (λ (kind : RowKind). not (is_free kind)) (take k (map kind_of rows))) ≡ k
kinds_count rows zero le = refl
kinds_count [] (suc k) le = absurd (omega (arith, le))
kinds_count (row ∷ rows) (suc k) le =
    let rest : List RowKind = filter (λ (kind : RowKind). not (is_free kind)) (take k (map kind_of rows)) in
    ap (λ (b : Bool). length (cond (not b) (kind_of row ∷ rest) rest)) (not_free (type_by row.lower row.upper)) ∙ ap suc (kinds_count rows k (omega (arith, le)))

abbrev pub written_kinds : List RowDef → List RowKind
written_kinds rows = kinds.TheVariants.Free ∷ map kind_of rows

kind_there : (rows : List RowDef) (k : ℕ) → k < length rows → is_free (kind_at (written_kinds rows) (suc k)) ≡ false
kind_there [] k lt = absurd (omega (arith, lt))
kind_there (row ∷ rows) zero lt = not_free (type_by row.lower row.upper)
kind_there (row ∷ rows) (suc k) lt = kind_there rows k (omega (arith, lt))

-- the terms of numbers that are those of a column
terms_to : (rows : List RowDef) (numbers_of : ℕ → Number) (ts : List Term) → Ascends 0 (length rows) ts → ((k : ℕ) → numbers_of (suc k) ≡ unwrap_or (latest ts k None) zero_ℚ)
    → (k : ℕ) → k ≤ length rows → terms_below (written_kinds rows) numbers_of (suc k) ≡ below k ts
terms_to rows numbers_of ts all are zero le = sym (below_none 0 (length rows) 0 ts all (omega arith))
terms_to rows numbers_of ts all are (suc k) le =
    ap₂ (λ (us vs : List Term). us ++ vs) (terms_to rows numbers_of ts all are k (omega (arith, le)))
    (ap₂ (λ (b : Bool) (i : ℕ). cond (b || eq_ℚ (numbers_of (suc k)) zero_ℚ) [] (record { id = i; value = numbers_of (suc k) } ∷ [])) (kind_there rows k (omega (arith, le))) (kinds_count rows k (omega (arith, le)))
    ∙ ap (term_at k) (are k))
    ∙ sym (below_next 0 (length rows) k ts all)

pub terms_are : (rows : List RowDef) (numbers_of : ℕ → Number) (ts : List Term) → Ascends 0 (length rows) ts → ((k : ℕ) → numbers_of (suc k) ≡ unwrap_or (latest ts k None) zero_ℚ)
    → terms_below (written_kinds rows) numbers_of (suc (length rows)) ≡ ts
terms_are rows numbers_of ts all are = terms_to rows numbers_of ts all are (length rows) (omega arith) ∙ below_all 0 (length rows) ts all
