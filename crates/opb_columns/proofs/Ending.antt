-- What the sums of a statement that ends become.
use Rattle.std.proofs.Common.{◌≡◌, ◌⊎◌, inl, inr, eq-eqb, false, ◌<◌, ◌==◌, ℕ, ℤ, pos, negsuc, zero, suc, List, [], ◌∷◌, ◌++◌, append-nil, length, Bool, cond, true, refl, sym, ap, ap₂, subst, arith, ◌∙◌}
use Rattle.std.proofs.lemmas.Bool.{cases_eq, ne_eqb}
use Rattle.std.specs.Prelude.{if◌then◌else◌}
use Rattle.fractions.specs.Compare.{eq_ℚ}
use Rattle.fractions.specs.Number.{Number, of_ℤ, zero_ℚ}
use Rattle.fractions.specs.Comparisons.{eq_ℚ-is}
use Rattle.lp_model.specs.declared.terms.Term.{Term}
use Rattle.mps_profile.specs.Texts.{Text, field}
use Rattle.mps_assembly.specs.Columnwise.{cost_at, number_terms, terms_at}
use Rattle.opb_text.specs.Statements as statements
use Rattle.opb_text.specs.Statements.{sum_at, terms_fit}
use Rattle.opb_columns.specs.Sums.{Covered, sum_in}
use Rattle.opb_columns.specs.Holding.{AreSums, Hold}
use Rattle.opb_columns.specs.declared.sums.Sums.{Sums}
use Rattle.opb_columns.specs.declared.columns.Columns.{Columns}
use Rattle.opb_columns.proofs.Covering.{covered_none}

-- the cost of a column, once its sum has become it, where that is not 0
abbrev pub owed : Number → Number → Number
owed cost sum = if eq_ℚ sum zero_ℚ then cost else sum

-- the terms of a column, once its sum has become one
abbrev pub with_sum : ℕ → List Term → ℤ → List Term
with_sum id terms sum = terms ++ number_terms id (of_ℤ sum)

pub nothing_owed : (id : ℕ) (terms : List Term) → with_sum id terms (pos 0) ≡ terms
nothing_owed id terms = ap (λ (more : List Term). terms ++ more) (ap (λ (b : Bool). cond b [] (record { id = id; value = zero_ℚ } ∷ [])) ((eq_ℚ-is zero_ℚ zero_ℚ).1 refl)) ∙ append-nil terms

zero_owed : (cost : Number) → owed cost zero_ℚ ≡ cost
zero_owed cost = ap (λ (b : Bool). cond b cost zero_ℚ) ((eq_ℚ-is zero_ℚ zero_ℚ).1 refl)

-- what stays while sums are taken out
pub record Going (old new : Columns) : Type 0 where
  pub names : new.names ≡ old.names
  pub costs_count : length new.costs.items ≡ length old.costs.items
  pub terms_count : length new.terms.items ≡ length old.terms.items
  pub sums_count : length new.sums.values.items ≡ length old.sums.values.items
  pub fits : new.sums.fits ≡ old.sums.fits
  pub covered : Covered old.sums.values.items old.sums.touched.items → Covered new.sums.values.items new.sums.touched.items

-- no sums are left
no_sums : (names : List Text) (summed : List statements.Term) (old new : Columns) → Going old new → AreSums names summed old.sums → terms_fit summed ≡ true → new.sums.touched.items ≡ []
    → ((j : ℕ) → sum_in new.sums.values.items j ≡ pos 0) × AreSums names [] new.sums
no_sums names summed old new going are fit none =
    let covered = subst (Covered new.sums.values.items) none (going.covered are.covered) in
    let zero = covered_none new.sums.values.items covered in
    (zero, record { count = going.sums_count ∙ are.count; fits = going.fits ∙ are.fits ∙ fit; values = λ is j below. zero j; covered = going.covered are.covered })

pub costs_ended : (names : List Text) (entries : Text → List Term) (summed : List statements.Term) (old new : Columns) → Hold names (λ name. pos 0) entries summed old → terms_fit summed ≡ true
    → Going old new → new.terms.items ≡ old.terms.items → new.sums.touched.items ≡ []
    → ((j : ℕ) → j < length old.costs.items → owed (cost_at new.costs.items j) (of_ℤ (sum_in new.sums.values.items j)) ≡ owed (cost_at old.costs.items j) (of_ℤ (sum_in old.sums.values.items j)))
    → Hold names (λ name. sum_at name summed) entries [] new
costs_ended names entries summed old new h fit going terms none owes =
    let ended = no_sums names summed old new going h.sums fit none in
    record {
      named = going.names ∙ h.named;
      costs_count = going.costs_count ∙ h.costs_count;
      costs = λ j below. paid j below (ended.0 j) (h.costs j below) (h.sums.values (h.sums.fits ∙ fit) j below) (owes j (rw h.costs_count below));
      terms_count = going.terms_count ∙ h.terms_count;
      terms = λ j below. ap (λ (v : List (List Term)). terms_at v j) terms ∙ h.terms j below;
      sums = ended.1;
    }
  where
    nothing : (sum : Number) → owed zero_ℚ sum ≡ sum
    nothing sum = by (eq_ℚ sum zero_ℚ) refl
      where
        by : (b : Bool) → eq_ℚ sum zero_ℚ ≡ b → cond b zero_ℚ sum ≡ sum
        by true is = sym ((eq_ℚ-is sum zero_ℚ).0 is)
        by false is = refl

    paid : (j : ℕ) → j < length names → sum_in new.sums.values.items j ≡ pos 0 → cost_at old.costs.items j ≡ of_ℤ (pos 0)
        → sum_in old.sums.values.items j ≡ sum_at (field names j) summed
        → owed (cost_at new.costs.items j) (of_ℤ (sum_in new.sums.values.items j)) ≡ owed (cost_at old.costs.items j) (of_ℤ (sum_in old.sums.values.items j))
        → cost_at new.costs.items j ≡ of_ℤ (sum_at (field names j) summed)
    paid j below taken free summed_as owes =
        sym (ap (λ (z : ℤ). owed (cost_at new.costs.items j) (of_ℤ z)) taken ∙ zero_owed (cost_at new.costs.items j)) ∙ owes
        ∙ ap₂ (λ (cost : Number) (z : ℤ). owed cost (of_ℤ z)) free summed_as ∙ nothing (of_ℤ (sum_at (field names j) summed))

pub row_ended : (names : List Text) (cost : Text → ℤ) (entries : Text → List Term) (summed : List statements.Term) (id : ℕ) (old new : Columns) → Hold names cost entries summed old
    → terms_fit summed ≡ true → Going old new → new.costs.items ≡ old.costs.items → new.sums.touched.items ≡ []
    → ((j : ℕ) → j < length old.terms.items → with_sum id (terms_at new.terms.items j) (sum_in new.sums.values.items j) ≡ with_sum id (terms_at old.terms.items j) (sum_in old.sums.values.items j))
    → Hold names cost (λ name. entries name ++ number_terms id (of_ℤ (sum_at name summed))) [] new
row_ended names cost entries summed id old new h fit going costs none owes =
    let ended = no_sums names summed old new going h.sums fit none in
    record {
      named = going.names ∙ h.named;
      costs_count = going.costs_count ∙ h.costs_count;
      costs = λ j below. ap (λ (v : List Number). cost_at v j) costs ∙ h.costs j below;
      terms_count = going.terms_count ∙ h.terms_count;
      terms = λ j below.
          sym (nothing_owed id (terms_at new.terms.items j)) ∙ sym (ap (with_sum id (terms_at new.terms.items j)) (ended.0 j)) ∙ owes j (rw h.terms_count below)
          ∙ ap₂ (with_sum id) (h.terms j below) (h.sums.values (h.sums.fits ∙ fit) j below);
      sums = ended.1;
    }

-- one sum is taken out
pub going_on : (old mid new : Columns) → Going old mid → new.names ≡ mid.names → length new.costs.items ≡ length mid.costs.items → length new.terms.items ≡ length mid.terms.items
    → length new.sums.values.items ≡ length mid.sums.values.items → new.sums.fits ≡ mid.sums.fits
    → (Covered mid.sums.values.items mid.sums.touched.items → Covered new.sums.values.items new.sums.touched.items) → Going old new
going_on old mid new going names costs terms sums fits covered = record {
  names = names ∙ going.names;
  costs_count = costs ∙ going.costs_count;
  terms_count = terms ∙ going.terms_count;
  sums_count = sums ∙ going.sums_count;
  fits = fits ∙ going.fits;
  covered = λ before. covered (going.covered before);
}

pub taken_terms : (id column j : ℕ) (value : Number) (sum : ℤ) (mid new : List Term) (was is : ℤ) → value ≡ of_ℤ sum → (column ≡ j → sum ≡ was)
    → new ≡ (if column == j then mid ++ number_terms id value else mid) → is ≡ (if column == j then pos 0 else was) → with_sum id new is ≡ with_sum id mid was
taken_terms id column j value sum mid new was is number own added taken = by (cases_eq column j)
  where
    by : (column ≡ j) ⊎ (column ≡ j → ⊥) → with_sum id new is ≡ with_sum id mid was
    by (inl e) =
        let same = eq-eqb column j e in
        ap₂ (with_sum id) (added ∙ ap (λ (b : Bool). cond b (mid ++ number_terms id value) mid) same ∙ ap (λ (x : Number). mid ++ number_terms id x) number)
        (taken ∙ ap (λ (b : Bool). cond b (pos 0) was) same)
        ∙ nothing_owed id (with_sum id mid sum) ∙ ap (with_sum id mid) (own e)
    by (inr e) =
        let other = ne_eqb column j e in
        ap₂ (with_sum id) (added ∙ ap (λ (b : Bool). cond b (mid ++ number_terms id value) mid) other) (taken ∙ ap (λ (b : Bool). cond b (pos 0) was) other)

-- the sum that is taken out is 0, or it becomes the cost
pub kept_cost : (column j : ℕ) (value cost : Number) (sums : List ℤ) (is : ℤ) → value ≡ of_ℤ (sum_in sums column) → is ≡ (if column == j then pos 0 else sum_in sums j) → value ≡ zero_ℚ
    → owed cost (of_ℤ is) ≡ owed cost (of_ℤ (sum_in sums j))
kept_cost column j value cost sums is number taken nothing = by (cases_eq column j)
  where
    by : (column ≡ j) ⊎ (column ≡ j → ⊥) → owed cost (of_ℤ is) ≡ owed cost (of_ℤ (sum_in sums j))
    by (inl e) =
        ap (λ (z : ℤ). owed cost (of_ℤ z)) (taken ∙ ap (λ (b : Bool). cond b (pos 0) (sum_in sums j)) (eq-eqb column j e))
        ∙ ap (owed cost) (sym nothing ∙ number ∙ ap (λ (k : ℕ). of_ℤ (sum_in sums k)) e)
    by (inr e) = ap (λ (z : ℤ). owed cost (of_ℤ z)) (taken ∙ ap (λ (b : Bool). cond b (pos 0) (sum_in sums j)) (ne_eqb column j e))

pub set_cost : (column j : ℕ) (value mid new : Number) (sums : List ℤ) (is : ℤ) → value ≡ of_ℤ (sum_in sums column) → is ≡ (if column == j then pos 0 else sum_in sums j)
    → new ≡ (if column == j then value else mid) → eq_ℚ value zero_ℚ ≡ false → owed new (of_ℤ is) ≡ owed mid (of_ℤ (sum_in sums j))
set_cost column j value mid new sums is number taken set some = by (cases_eq column j)
  where
    by : (column ≡ j) ⊎ (column ≡ j → ⊥) → owed new (of_ℤ is) ≡ owed mid (of_ℤ (sum_in sums j))
    by (inl e) =
        let same = eq-eqb column j e in
        ap₂ (λ (cost : Number) (z : ℤ). owed cost (of_ℤ z)) (set ∙ ap (λ (b : Bool). cond b value mid) same) (taken ∙ ap (λ (b : Bool). cond b (pos 0) (sum_in sums j)) same)
        ∙ zero_owed value ∙ sym (ap (owed mid) (sym (number ∙ ap (λ (k : ℕ). of_ℤ (sum_in sums k)) e)) ∙ ap (λ (b : Bool). cond b mid value) some)
    by (inr e) =
        let other = ne_eqb column j e in
        ap₂ (λ (cost : Number) (z : ℤ). owed cost (of_ℤ z)) (set ∙ ap (λ (b : Bool). cond b value mid) other) (taken ∙ ap (λ (b : Bool). cond b (pos 0) (sum_in sums j)) other)
