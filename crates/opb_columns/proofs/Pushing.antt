-- Columns that come in, and terms that are added.
use Rattle.std.proofs.Common.{◌≡◌, ◌≢◌, ◌⊎◌, inl, inr, ℕ, suc, ◌+◌, ◌<◌, ◌≤◌, ◌==◌, ℤ, pos, List, [], ◌∷◌, ◌++◌, length, length-append, get_or, Bool, true, false, true≢false, cond, ◌&&◌, Option, Some, None, is_some, refl, sym, ap, ap₂, subst, ◌∙◌, arith, eq-eqb}
use Rattle.std.specs.Prelude.{◌+ℤ◌, if◌then◌else◌}
use Rattle.std.specs.Str.{bytes_eq}
use Rattle.std.proofs.Math.Seq.{get_or-append_seam}
use Rattle.std.proofs.lemmas.Bool.{and_parts, cases_eq, cases_lt, ne_eqb}
use Rattle.std.proofs.lemmas.List.{get_or_append_left}
use Rattle.std.proofs.lemmas.Slice.Eq.{bytes_eq-Decides}
use Rattle.fractions.specs.Number.{Number, of_ℤ, zero_ℚ}
use Rattle.lp_model.specs.Names.{Differ}
use Rattle.lp_model.specs.declared.terms.Term.{Term}
use Rattle.names.specs.Names.{place}
use Rattle.mps_laws.proofs.Places.{place_within}
use Rattle.mps_profile.specs.Texts.{Text, field}
use Rattle.mps_profile.specs.Columns.{joined}
use Rattle.opb_text.specs.Statements as statements
use Rattle.opb_text.specs.Statements.{in_range, sum_at, terms_fit}
use Rattle.opb_columns.specs.Sums.{Covered, sum_in}
use Rattle.opb_columns.specs.Holding.{AreSums, Hold, IsNumbered, IsUnsaid}
use Rattle.opb_columns.specs.declared.sums.Sums.{Sums}
use Rattle.opb_columns.specs.declared.columns.Columns.{Columns}
use Rattle.opb_columns.proofs.Covering.{covered_grown}

-- ---- a column comes in
-- one value more by name
pushed : {A : Type 0} (names : List Text) (name : Text) (xs : List A) (x d : A) (f : Text → A) → length xs ≡ length names
    → ((j : ℕ) → j < length names → get_or xs j d ≡ f (field names j)) → x ≡ f name
    → (j : ℕ) → j < length (names ++ name ∷ []) → get_or (xs ++ x ∷ []) j d ≡ f (field (names ++ name ∷ []) j)
pushed names name xs x d f count known here j below = by (cases_lt j (length names))
  where
    by : (j < length names) ⊎ (length names ≤ j) → get_or (xs ++ x ∷ []) j d ≡ f (field (names ++ name ∷ []) j)
    by (inl early) =
        get_or_append_left xs (x ∷ []) d j (omega (arith, early, count)) ∙ known j early ∙ ap f (sym (get_or_append_left names (name ∷ []) [] j early))
    by (inr late) =
        let long = length-append names (name ∷ []) in
        let one : length (name ∷ []) ≡ 1 = refl in
        let last : j ≡ length names = omega (arith, long, one, below, late) in
        ap (λ (k : ℕ). get_or (xs ++ x ∷ []) k d) (last ∙ sym count) ∙ get_or-append_seam xs x [] d ∙ here
        ∙ ap f (sym (ap (λ (k : ℕ). field (names ++ name ∷ []) k) last ∙ get_or-append_seam names name [] []))

longer : {A B : Type 0} (xs : List A) (x : A) (ys : List B) (y : B) → length xs ≡ length ys → length (xs ++ x ∷ []) ≡ length (ys ++ y ∷ [])
longer xs x ys y same = length-append xs (x ∷ []) ∙ ap (λ (n : ℕ). n + 1) same ∙ sym (length-append ys (y ∷ []))

pub joined_new : (name : Text) (names : List Text) → place name names ≡ None → joined name names ≡ names ++ name ∷ []
joined_new name names none = ap (λ (o : Option ℕ). cond (is_some o) names (names ++ name ∷ [])) none

pub joined_known : (name : Text) (names : List Text) (k : ℕ) → place name names ≡ Some k → joined name names ≡ names
joined_known name names k known = ap (λ (o : Option ℕ). cond (is_some o) names (names ++ name ∷ [])) known

pub hold_fresh : (names : List Text) (cost : Text → ℤ) (entries : Text → List Term) (summed : List statements.Term) (name : Text) (old new : Columns) → Hold names cost entries summed old
    → IsUnsaid name cost entries summed → new.names ≡ names ++ name ∷ [] → new.costs.items ≡ old.costs.items ++ zero_ℚ ∷ [] → new.terms.items ≡ old.terms.items ++ [] ∷ []
    → new.sums.values.items ≡ old.sums.values.items ++ pos 0 ∷ [] → new.sums.touched.items ≡ old.sums.touched.items → new.sums.fits ≡ old.sums.fits
    → Hold (names ++ name ∷ []) cost entries summed new
hold_fresh names cost entries summed name old new h unsaid named costs terms values touched fits = record {
  named = named;
  costs_count = ap length costs ∙ longer old.costs.items zero_ℚ names name h.costs_count;
  costs = λ j below. ap (λ (xs : List Number). get_or xs j zero_ℚ) costs
      ∙ pushed names name old.costs.items zero_ℚ zero_ℚ (λ n. of_ℤ (cost n)) h.costs_count h.costs (sym (ap of_ℤ unsaid.no_cost)) j below;
  terms_count = ap length terms ∙ longer old.terms.items [] names name h.terms_count;
  terms = λ j below. ap (λ (xs : List (List Term)). get_or xs j []) terms ∙ pushed names name old.terms.items [] [] entries h.terms_count h.terms (sym unsaid.no_entries) j below;
  sums = record {
    count = ap length values ∙ longer old.sums.values.items (pos 0) names name h.sums.count;
    fits = fits ∙ h.sums.fits;
    values = λ fit j below. ap (λ (xs : List ℤ). sum_in xs j) values
        ∙ pushed names name old.sums.values.items (pos 0) (pos 0) (λ n. sum_at n summed) h.sums.count (h.sums.values (sym fits ∙ fit)) (sym unsaid.no_sum) j below;
    covered = subst (λ (xs : List ℤ). Covered xs new.sums.touched.items) (sym values)
        (subst (λ (columns : List ℕ). Covered (old.sums.values.items ++ pos 0 ∷ []) columns) (sym touched) (covered_grown _ _ h.sums.covered));
  };
}

-- ---- a term is added
-- two columns have two names
different : (names : List Text) (i k : ℕ) → Differ names → i < length names → k < length names → i ≢ k → bytes_eq (field names i) (field names k) ≡ false
different names i k differ below_i below_k other = by (bytes_eq (field names i) (field names k)) refl (cases_lt i k)
  where
    clash : field names i ≡ field names k → (i < k) ⊎ (k ≤ i) → ⊥
    clash same (inl less) = differ i k [] less below_k same
    clash same (inr more) = differ k i [] (omega (arith, more, other)) below_i (sym same)

    by : (b : Bool) → bytes_eq (field names i) (field names k) ≡ b → (i < k) ⊎ (k ≤ i) → bytes_eq (field names i) (field names k) ≡ false
    by false is order = is
    by true is order = absurd (clash ((bytes_eq-Decides (field names i) (field names k)).0 is) order)

-- the step of the term's own column, as the terms have it
own_sum : (name : Text) (value : ℤ) (summed : List statements.Term) → sum_at name (record { name = name; value = value } ∷ summed) ≡ sum_at name summed +ℤ value
own_sum name value summed = ap (λ (b : Bool). cond b (sum_at name summed +ℤ value) (sum_at name summed)) ((bytes_eq-Decides name name).1 refl)

pub sums_added : (names : List Text) (summed : List statements.Term) (name : Text) (value : ℤ) (column : ℕ) (old new : Sums) → AreSums names summed old → Differ names
    → column < length names → field names column ≡ name
    → length new.values.items ≡ length old.values.items
    → new.fits ≡ (old.fits && in_range (sum_in old.values.items column +ℤ value))
    → (new.fits ≡ true → (j : ℕ) → sum_in new.values.items j ≡ (if column == j then sum_in old.values.items j +ℤ value else sum_in old.values.items j))
    → (Covered old.values.items old.touched.items → Covered new.values.items new.touched.items)
    → AreSums names (record { name = name; value = value } ∷ summed) new
sums_added names summed name value column old new are differ below at count fits added covered = record {
  count = count ∙ are.count;
  fits = fits ∙ step old.fits refl;
  values = λ fit j within. added fit j ∙ by fit j within (cases_eq column j);
  covered = covered are.covered;
}
  where
    here : old.fits ≡ true → sum_in old.values.items column ≡ sum_at name summed
    here fit = are.values fit column below ∙ ap (λ (n : Text). sum_at n summed) at

    step : (b : Bool) → old.fits ≡ b → (old.fits && in_range (sum_in old.values.items column +ℤ value)) ≡ (terms_fit summed && in_range (sum_at name (record { name = name; value = value } ∷ summed)))
    step true is =
        ap₂ (λ (b : Bool) (s : ℤ). b && in_range (s +ℤ value)) are.fits (here is) ∙ ap (λ (s : ℤ). terms_fit summed && in_range s) (sym (own_sum name value summed))
    step false is =
        ap (λ (b : Bool). b && in_range (sum_in old.values.items column +ℤ value)) is
        ∙ sym (ap (λ (b : Bool). b && in_range (sum_at name (record { name = name; value = value } ∷ summed))) (sym are.fits ∙ is))

    fitted : new.fits ≡ true → old.fits ≡ true
    fitted fit = (and_parts old.fits _ (sym fits ∙ fit)).0

    by : new.fits ≡ true → (j : ℕ) → j < length names → (column ≡ j) ⊎ (column ≡ j → ⊥)
        → (if column == j then sum_in old.values.items j +ℤ value else sum_in old.values.items j) ≡ sum_at (field names j) (record { name = name; value = value } ∷ summed)
    by fit j within (inl same) =
        let own : field names j ≡ name = sym (ap (field names) same) ∙ at in
        ap (λ (b : Bool). cond b (sum_in old.values.items j +ℤ value) (sum_in old.values.items j)) (eq-eqb column j same)
        ∙ ap (λ (s : ℤ). s +ℤ value) (are.values (fitted fit) j within ∙ ap (λ (n : Text). sum_at n summed) own)
        ∙ sym (own_sum name value summed)
        ∙ ap (λ (n : Text). sum_at n (record { name = name; value = value } ∷ summed)) (sym own)
    by fit j within (inr other) =
        let apart : bytes_eq name (field names j) ≡ false = ap (λ (n : Text). bytes_eq n (field names j)) (sym at) ∙ different names column j differ below within other in
        ap (λ (b : Bool). cond b (sum_in old.values.items j +ℤ value) (sum_in old.values.items j)) (ne_eqb column j other)
        ∙ are.values (fitted fit) j within
        ∙ sym (ap (λ (b : Bool). cond b (sum_at (field names j) summed +ℤ value) (sum_at (field names j) summed)) apart)

-- ---- the number of a name
pub fresh_column : (names : List Text) (cost : Text → ℤ) (entries : Text → List Term) (summed : List statements.Term) (name : Text) (old new : Columns) (column : ℕ)
    → Hold names cost entries summed old → (place name names ≡ None → IsUnsaid name cost entries summed)
    → (place name old.names ≡ None) × (column ≡ length old.names) × (new.names ≡ old.names ++ name ∷ [])
    → new.costs.items ≡ old.costs.items ++ zero_ℚ ∷ [] → new.terms.items ≡ old.terms.items ++ [] ∷ []
    → new.sums.values.items ≡ old.sums.values.items ++ pos 0 ∷ [] → new.sums.touched.items ≡ old.sums.touched.items → new.sums.fits ≡ old.sums.fits
    → IsNumbered names cost entries summed name column new
fresh_column names cost entries summed name old new column h unsaid taken costs terms values touched fits =
    let none : place name names ≡ None = ap (place name) (sym h.named) ∙ taken.0 in
    let is : joined name names ≡ names ++ name ∷ [] = joined_new name names none in
    let last : column ≡ length names = taken.1 ∙ ap length h.named in
    let long : length (names ++ name ∷ []) ≡ length names + 1 = length-append names (name ∷ []) in
    record {
      within = subst (λ (ns : List Text). column < length ns) (sym is) (omega (arith, last, long));
      at = ap (λ (ns : List Text). field ns column) is ∙ ap (λ (k : ℕ). field (names ++ name ∷ []) k) last ∙ get_or-append_seam names name [] [];
      held = subst (λ (ns : List Text). Hold ns cost entries summed new) (sym is)
          (hold_fresh names cost entries summed name old new h (unsaid none) (taken.2 ∙ ap (λ (ns : List Text). ns ++ name ∷ []) h.named) costs terms values touched fits);
    }

pub known_column : (names : List Text) (cost : Text → ℤ) (entries : Text → List Term) (summed : List statements.Term) (name : Text) (old : Columns) (new : List Text) (column : ℕ)
    → Hold names cost entries summed old → (place name old.names ≡ Some column) × (new ≡ old.names)
    → IsNumbered names cost entries summed name column (record old { names = new })
known_column names cost entries summed name old new column h taken =
    let known : place name names ≡ Some column = ap (place name) (sym h.named) ∙ taken.0 in
    let is : joined name names ≡ names = joined_known name names column known in
    let at = place_within name names column known in
    let held : Hold names cost entries summed (record old { names = new }) =
    record { named = taken.1 ∙ h.named; costs_count = h.costs_count; costs = h.costs; terms_count = h.terms_count; terms = h.terms; sums = h.sums } in
    record {
      within = subst (λ (ns : List Text). column < length ns) (sym is) at.0;
      at = ap (λ (ns : List Text). field ns column) is ∙ sym at.1;
      held = subst (λ (ns : List Text). Hold ns cost entries summed (record old { names = new })) (sym is) held;
    }

-- the columns with a term more
pub hold_added : (names : List Text) (cost : Text → ℤ) (entries : Text → List Term) (summed : List statements.Term) (name : Text) (value : ℤ) (column : ℕ) (old : Columns) (new : Sums)
    → IsNumbered names cost entries summed name column old → Differ (joined name names)
    → length new.values.items ≡ length old.sums.values.items
    → (column < length old.sums.values.items → new.fits ≡ (old.sums.fits && in_range (sum_in old.sums.values.items column +ℤ value)))
    → (column < length old.sums.values.items → new.fits ≡ true → (j : ℕ) → sum_in new.values.items j ≡ (if column == j then sum_in old.sums.values.items j +ℤ value else sum_in old.sums.values.items j))
    → (Covered old.sums.values.items old.sums.touched.items → Covered new.values.items new.touched.items)
    → Hold (joined name names) cost entries (record { name = name; value = value } ∷ summed) (record old { sums = new })
hold_added names cost entries summed name value column old new numbered differ count fits added covered =
    let h = numbered.held in
    let within : column < length old.sums.values.items = rw h.sums.count numbered.within in
    record {
      named = h.named;
      costs_count = h.costs_count;
      costs = h.costs;
      terms_count = h.terms_count;
      terms = h.terms;
      sums = sums_added (joined name names) summed name value column old.sums new h.sums differ numbered.within numbered.at count (fits within) (added within) covered;
    }
