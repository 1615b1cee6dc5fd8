-- A walk along the entries of two columns or of two rows.
use Rattle.std.proofs.Common.{◌≡◌, ◌≢◌, suc, ◌≤◌, ◌<◌, Bool, true, false, not, ◌&&◌, nat_eq, List, [], ◌∷◌, length, get_or, Some, None, Result, Ok, Err, is_ok, sym, refl, ap, ap₂, ◌∙◌, subst, true≢false, arith}
use Rattle.std.specs.Prelude.{if◌then◌else◌}
use Rattle.std.specs.List.{All}
use Rattle.std.proofs.lemmas.List.Elements.{All-head}
use Rattle.std.proofs.lemmas.Option.{none-some, same_Some}
use Rattle.fractions.specs.Number.{Number, zero_ℚ, ◌*ℚ◌}
use Rattle.fractions.specs.Compare.{eq_ℚ}
use Rattle.fractions.specs.Division.{◌/ℚ◌}
use Rattle.fractions.specs.Lowest.{Fits}
use Rattle.fractions.specs.Comparisons.{eq_ℚ-is}
use Rattle.fractions.specs.declared.Past.{Past}
use Rattle.lp_model.specs.declared.terms.Term.{Term}
use Rattle.problem_model.specs.declared.line.Line.{Line}
use Rattle.problem_model.specs.Matrices.{line_at, live_only}
use Rattle.problem_laws.proofs.Terms.{not_both}
use Rattle.row_spans.specs.Exact.{fits, if_room}
use Rattle.row_spans.proofs.Rooms.{fits-is}
use Rattle.rule_words.specs.Entries.{has_none}
use Rattle.rule_words.proofs.EndTestsSay.{not_true}
use Rattle.rule_words.specs.Multiples.{are_times, factor_of}
use Rattle.parallel_column_rules.specs.Walks.{after_first, begin_alike, first_number, first_over, from_live}

-- terms are none, or the first names a live line
abbrev pub begins_live : List Line → List Term → Bool
begins_live lines [] = true
begins_live lines (t ∷ ts) = (line_at lines t.id).live

-- ---- products
-- a number that has room isn't one that has none
pub past_product : (n q : Number) (r : Result Number Past) (e : Past) → Fits n → r ≡ if_room (fits q) q → r ≡ Err e → false ≡ eq_ℚ n q
past_product n q r e f g h = by (fits q) refl (eq_ℚ n q) refl
  where
    by : (a : Bool) → fits q ≡ a → (b : Bool) → eq_ℚ n q ≡ b → false ≡ b
    by a k false l = refl
    by true k true l = absurd (told (sym h ∙ g ∙ ap (λ (x : Bool). if_room x q) k))
      where
        told : Err e ≡ Ok q → ⊥
        told m = true≢false (ap is_ok (sym m))
    by false k true l = absurd (not_both ((fits-is q).1 (subst Fits ((eq_ℚ-is n q).0 l) f)) k)

-- ---- first numbers
-- they aren't 0
pub first_not_zero : (ts : List Term) (q : Number) → All (λ t. t.value ≢ zero_ℚ) ts → Some q ≡ first_number ts → q ≢ zero_ℚ
first_not_zero [] q a e = absurd (none-some q (sym e))
first_not_zero (t ∷ ts) q a e = λ z. All-head (λ (t : Term). t.value ≢ zero_ℚ) t ts a (sym (same_Some q t.value e) ∙ z)

-- there is a quotient of them
pub first_made : (ts us : List Term) → not (has_none ts) ≡ true → fits (factor_of ts us) ≡ true → are_times (factor_of ts us) ts us ≡ true → first_over ts us ≡ Some (factor_of ts us)
first_made [] us h r e = absurd (not_true h)
first_made (t ∷ ts) [] h r e = absurd (not_true e)
first_made (t ∷ ts) (u ∷ us) h r e = ap (λ (b : Bool). if b then Some (t.value /ℚ u.value) else None) r

-- ---- where terms begin
module _ (lines : List Line) where
  abbrev live : Term → Bool
  live t = (line_at lines t.id).live

  begins_from : (ts : List Term) → begins_live lines (from_live lines ts) ≡ true
  begins_from [] = refl
  begins_from (t ∷ ts) = by (live t) refl (begins_from ts)
    where
      by : (b : Bool) → live t ≡ b → begins_live lines (from_live lines ts) ≡ true → begins_live lines (if b then t ∷ ts else from_live lines ts) ≡ true
      by true e h = e
      by false e h = h

  pub begins : (ts xs : List Term) → xs ≡ from_live lines ts → begins_live lines xs ≡ true
  begins ts xs e = ap (begins_live lines) e ∙ begins_from ts

  -- what is passed over isn't live
  pub live_same : (ts : List Term) → live_only lines (from_live lines ts) ≡ live_only lines ts
  live_same [] = refl
  live_same (t ∷ ts) = by (live t) refl (live_same ts)
    where
      by : (b : Bool) → live t ≡ b → live_only lines (from_live lines ts) ≡ live_only lines ts
          → live_only lines (if b then t ∷ ts else from_live lines ts) ≡ (if b then t ∷ live_only lines ts else live_only lines ts)
      by true e h = ap (λ (b : Bool). if b then t ∷ live_only lines ts else live_only lines ts) e
      by false e h = h

  fewer : (ts : List Term) → length (from_live lines ts) ≤ length ts
  fewer [] = omega arith
  fewer (t ∷ ts) = by (live t) (fewer ts)
    where
      by : (b : Bool) → length (from_live lines ts) ≤ length ts → length (if b then t ∷ ts else from_live lines ts) ≤ suc (length ts)
      by true h = omega arith
      by false h = omega (arith, h)

  kept : (t : Term) (ts : List Term) → live t ≡ true → live_only lines (t ∷ ts) ≡ t ∷ live_only lines ts
  kept t ts e = ap (λ (b : Bool). if b then t ∷ live_only lines ts else live_only lines ts) e

  -- ---- the first of those that are live
  first_none : (ts us : List Term) → us ≡ from_live lines ts → length us < 1 → live_only lines ts ≡ []
  first_none ts [] e l = sym (live_same ts) ∙ ap (live_only lines) (sym e)
  first_none ts (u ∷ us) e l = absurd (omega (arith, l))

  first_some : (ts us : List Term) (t : Term) → us ≡ from_live lines ts → 1 ≤ length us → t ≡ get_or us 0 t → live_only lines ts ≡ t ∷ live_only lines (after_first us)
  first_some ts [] t e l g = absurd (omega (arith, l))
  first_some ts (u ∷ us) t e l g = sym (live_same ts) ∙ ap (live_only lines) (sym e)
      ∙ kept u us (subst (λ (x : List Term). begins_live lines x ≡ true) (sym e) (begins_from ts)) ∙ ap (λ (x : Term). x ∷ live_only lines us) (sym g)

  pub number_none : (ts us : List Term) → us ≡ from_live lines ts → length us < 1 → None ≡ first_number (live_only lines ts)
  number_none ts us e l = ap first_number (sym (first_none ts us e l))

  pub number_some : (ts us : List Term) (t : Term) → us ≡ from_live lines ts → 1 ≤ length us → t ≡ get_or us 0 t → Some t.value ≡ first_number (live_only lines ts)
  number_some ts us t e l g = ap first_number (sym (first_some ts us t e l g))

  -- ---- one step
  all_parts : (a b c : Bool) → (a && b) ≡ true → (a && (b && c)) ≡ c
  all_parts true true c e = refl
  all_parts true false c e = absurd (not_true e)
  all_parts false b c e = absurd (not_true e)

  no_part : (a b c : Bool) → (a && b) ≡ false → (a && (b && c)) ≡ false
  no_part true true c e = absurd (not_both refl e)
  no_part true false c e = refl
  no_part false b c e = refl

  module _ (s : Number) where
    abbrev Times : List Term → List Term → Bool
    Times ts us = are_times s (live_only lines ts) (live_only lines us)

    both_kept : (t u : Term) (ts us : List Term) → live t ≡ true → live u ≡ true → Times (t ∷ ts) (u ∷ us) ≡ (nat_eq t.id u.id && (eq_ℚ t.value (s *ℚ u.value) && Times ts us))
    both_kept t u ts us e f = ap₂ (λ (x y : List Term). are_times s x y) (kept t ts e) (kept u us f)

    -- what is passed over changes nothing
    pub starts : (ts us xs ys : List Term) → xs ≡ from_live lines ts → ys ≡ from_live lines us → Times xs ys ≡ Times ts us
    starts ts us xs ys e f = ap₂ (λ (x y : List Term). are_times s x y) (ap (live_only lines) e ∙ live_same ts) (ap (live_only lines) f ∙ live_same us)

    -- where the first terms are alike, all depends on the others
    alike_on : (ts us : List Term) → begins_live lines ts ≡ true → begins_live lines us ≡ true → begin_alike s ts us ≡ true → Times (after_first ts) (after_first us) ≡ Times ts us
    alike_on [] us e f h = absurd (not_true h)
    alike_on (t ∷ ts) [] e f h = absurd (not_true h)
    alike_on (t ∷ ts) (u ∷ us) e f h = sym (both_kept t u ts us e f ∙ all_parts (nat_eq t.id u.id) (eq_ℚ t.value (s *ℚ u.value)) (Times ts us) h)

    pub goes_on : (ts us xs ys : List Term) → begins_live lines ts ≡ true → begins_live lines us ≡ true → begin_alike s ts us ≡ true
        → xs ≡ from_live lines (after_first ts) → ys ≡ from_live lines (after_first us) → Times xs ys ≡ Times ts us
    goes_on ts us xs ys e f h g k = starts (after_first ts) (after_first us) xs ys g k ∙ alike_on ts us e f h

    -- where they aren't, that decides
    pub refused : (ts us : List Term) → begins_live lines ts ≡ true → begins_live lines us ≡ true → not (has_none ts && has_none us) ≡ true → begin_alike s ts us ≡ false → Times ts us ≡ false
    refused [] [] e f l h = absurd (not_true l)
    refused [] (u ∷ us) e f l h = ap (are_times s []) (kept u us f)
    refused (t ∷ ts) [] e f l h = ap (λ (x : List Term). are_times s x []) (kept t ts e)
    refused (t ∷ ts) (u ∷ us) e f l h = both_kept t u ts us e f ∙ no_part (nat_eq t.id u.id) (eq_ℚ t.value (s *ℚ u.value)) (Times ts us) h

    -- where neither has a term, nothing refuses
    pub ended : (ts us : List Term) → not (has_none ts && has_none us) ≡ false → Times ts us ≡ true
    ended [] [] h = refl
    ended [] (u ∷ us) h = absurd (not_both refl h)
    ended (t ∷ ts) us h = absurd (not_both refl h)

    pub shorter : (ts us xs : List Term) → begin_alike s ts us ≡ true → xs ≡ from_live lines (after_first ts) → length xs < length ts
    shorter [] us xs h e = absurd (not_true h)
    shorter (t ∷ ts) us xs h e = let f = fewer ts in let g = ap length e in omega (arith, f, g)
