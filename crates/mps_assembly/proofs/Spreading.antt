-- Entries of a row that go to their columns one after the other.
use Rattle.std.proofs.Common.{◌≡◌, ◌∙◌, ◌<◌, ◌≤◌, ◌+◌, ℕ, zero, suc, Bool, true, false, cond, nat_eq, List, [], ◌∷◌, ◌++◌, ◌-◌, length, take, drop, get_or, subst, refl, sym, ap, arith, add-zero, add-one, append-nil, ◌⊎◌, inl, inr, eq-eqb}
use Rattle.std.specs.Prelude.{◌==◌, not, filter, Option, Some, None, unwrap_or, if◌then◌else◌}
use Rattle.std.proofs.lemmas.Bool.{ne_eqb, cases_eq}
use Rattle.std.proofs.lemmas.List.{take_all}
use Rattle.fractions.specs.Number.{Number, zero_ℚ}
use Rattle.fractions.specs.Comparisons.{eq_ℚ-is}
use Rattle.lp_model.specs.declared.terms.Term.{Term}
use Rattle.mps_profile.specs.Rows.{is_free}
use Rattle.mps_profile.specs.Program.{kind_at, id_of}
use Rattle.mps_profile.specs.declared.row_kinds.RowKind.{RowKind}
use Rattle.mps_stores.specs.declared.single_row.Entry.{Entry}
use Rattle.mps_stores.specs.Entries.{value_in, IsOnce}
use Rattle.mps_assembly.specs.Columnwise.{number_terms, ids_after}

-- 0 has no term
pub no_zero_term : (id : ℕ) → number_terms id zero_ℚ ≡ []
no_zero_term id = ap (λ (b : Bool). cond b [] (record { id = id; value = zero_ℚ } ∷ [])) ((eq_ℚ-is zero_ℚ zero_ℚ).1 refl)

-- one entry more: what it and the later ones add to a column
pub terms_more : (id j : ℕ) (entry : Entry) (later : List Entry) (old new : List Term) → value_in later entry.column ≡ None
    → new ≡ (if entry.column == j then old ++ number_terms id entry.value else old)
    → new ++ number_terms id (unwrap_or (value_in later j) zero_ℚ) ≡ old ++ number_terms id (unwrap_or (value_in (entry ∷ later) j) zero_ℚ)
terms_more id j entry later old new none made = by (cases_eq entry.column j)
  where
    number : Bool → Number
    number b = unwrap_or (cond b (Some entry.value) (value_in later j)) zero_ℚ

    by : (entry.column ≡ j) ⊎ (entry.column ≡ j → ⊥) → new ++ number_terms id (unwrap_or (value_in later j) zero_ℚ) ≡ old ++ number_terms id (number (nat_eq entry.column j))
    by (inl g) =
        let same : nat_eq entry.column j ≡ true = eq-eqb entry.column j g in
        let here : new ≡ old ++ number_terms id entry.value = made ∙ ap (λ (b : Bool). cond b (old ++ number_terms id entry.value) old) same in
        let past : value_in later j ≡ None = ap (λ (k : ℕ). value_in later k) (sym g) ∙ none in
        let nothing : number_terms id (unwrap_or (value_in later j) zero_ℚ) ≡ [] = ap (λ (v : Option Number). number_terms id (unwrap_or v zero_ℚ)) past ∙ no_zero_term id in
        ap (λ (ts : List Term). new ++ ts) nothing ∙ append-nil new ∙ here ∙ ap (λ (b : Bool). old ++ number_terms id (number b)) (sym same)
    by (inr g) =
        let other : nat_eq entry.column j ≡ false = ne_eqb entry.column j g in
        let here : new ≡ old = made ∙ ap (λ (b : Bool). cond b (old ++ number_terms id entry.value) old) other in
        ap (λ (ts : List Term). ts ++ number_terms id (unwrap_or (value_in later j) zero_ℚ)) here ∙ ap (λ (b : Bool). old ++ number_terms id (number b)) (sym other)

-- the id of the next row
pub id_next : (kinds : List RowKind) (i : ℕ) → id_of kinds (i + 1) ≡ id_of kinds i + ids_after (kind_at kinds i)
id_next kinds i = rw add-one (by kinds i)
  where
    counted : (b : Bool) (kind : RowKind) (xs : List RowKind) → length (cond (not b) (kind ∷ xs) xs) ≡ length xs + cond b 0 1
    counted true kind xs = sym (add-zero (length xs))
    counted false kind xs = sym (add-one (length xs))

    behind : (b : Bool) (kind : RowKind) (xs ys : List RowKind) (n : ℕ) → length xs ≡ length ys + n → length (cond (not b) (kind ∷ xs) xs) ≡ length (cond (not b) (kind ∷ ys) ys) + n
    behind true kind xs ys n h = h
    behind false kind xs ys n h = omega (arith, h)

    by : (kinds : List RowKind) (i : ℕ) → id_of kinds (suc i) ≡ id_of kinds i + ids_after (kind_at kinds i)
    by [] zero = refl
    by [] (suc i) = refl
    by (kind ∷ kinds) zero = counted (is_free kind) kind []
    by (kind ∷ kinds) (suc i) = behind (is_free kind) kind _ _ (ids_after (kind_at kinds i)) (by kinds i)

pub ids_below : (kinds : List RowKind) (i : ℕ) → id_of kinds i ≤ i
ids_below [] zero = omega arith
ids_below [] (suc i) = omega arith
ids_below (kind ∷ kinds) zero = omega arith
ids_below (kind ∷ kinds) (suc i) = by (is_free kind) (filter (λ k. not (is_free k)) (take i kinds)) (ids_below kinds i)
  where
    by : (b : Bool) (xs : List RowKind) → length xs ≤ i → length (cond (not b) (kind ∷ xs) xs) ≤ suc i
    by true xs h = omega (arith, h)
    by false xs h = omega (arith, h)

-- a row without entries adds nothing
pub nothing_more : (id : ℕ) (ts : List Term) → ts ++ number_terms id zero_ℚ ≡ ts
nothing_more id ts = ap (λ (more : List Term). ts ++ more) (no_zero_term id) ∙ append-nil ts

-- the entries after the first
pub tail_is : (rest : List Entry) (entry : Entry) → 1 ≤ length rest → entry ≡ get_or rest 0 entry → rest ≡ entry ∷ take (length rest - 1) (drop 1 rest)
tail_is [] entry some is = absurd (omega (arith, some))
tail_is (x ∷ more) entry some is =
    let one : length (x ∷ more) - 1 ≡ length more = omega arith in
    ap (λ (e : Entry). e ∷ more) (sym is) ∙ ap (λ (es : List Entry). entry ∷ es) (sym (ap (λ (n : ℕ). take n more) one ∙ take_all (length more) more (omega arith)))

pub once_tail : (rest tail : List Entry) (entry : Entry) → rest ≡ entry ∷ tail → IsOnce rest → (value_in tail entry.column ≡ None) × IsOnce tail
once_tail rest tail entry is once = subst (λ (es : List Entry). IsOnce es) is once

pub none_left : (rest : List Entry) → length rest < 1 → rest ≡ []
none_left [] h = refl
none_left (x ∷ rest) h = absurd (omega (arith, h))
