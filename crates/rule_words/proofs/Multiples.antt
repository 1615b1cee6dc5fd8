-- What entries that are a number times others say of each id.
use Rattle.std.proofs.Common.{◌≡◌, ◌≢◌, ◌⊎◌, inl, inr, ℕ, true, not, ◌&&◌, nat_eq, List, [], ◌∷◌, refl, sym, ap, ◌∙◌, pos}
use Rattle.std.proofs.lemmas.Bool.{and_parts, cases_eq, eqb-true}
use Rattle.fractions.specs.Number.{Number, rational, zero_ℚ, ◌*ℚ◌}
use Rattle.fractions.specs.Ring.{ring, v, num, ◌:*◌}
use Rattle.fractions.specs.Compare.{eq_ℚ}
use Rattle.fractions.specs.Comparisons.{eq_ℚ-is}
use Rattle.lp_model.specs.declared.terms.Term.{Term}
use Rattle.lp_model.specs.Sparse.{Ascends, dense}
use Rattle.problem_laws.proofs.Terms.{dense-cons_other, dense-cons_same}
use Rattle.rule_words.specs.Entries.{has_none}
use Rattle.rule_words.specs.Multiples.{are_times}
use Rattle.rule_words.proofs.EndTestsSay.{not_true}

times_zero : (s : Number) → zero_ℚ ≡ s *ℚ zero_ℚ
times_zero s = ring rational (s ∷ []) (num (pos 0)) (v 0 :* num (pos 0)) refl

zero_times : (s : Number) → zero_ℚ *ℚ s ≡ zero_ℚ
zero_times s = ring rational (s ∷ []) (num (pos 0) :* v 0) (num (pos 0)) refl

-- each number is s times the other, at each id
pub times_at : (s : Number) (ts us : List Term) → are_times s ts us ≡ true → (i : ℕ) → dense ts i ≡ s *ℚ dense us i
times_at s [] [] e i = times_zero s
times_at s [] (u ∷ us) e i = absurd (not_true e)
times_at s (t ∷ ts) [] e i = absurd (not_true e)
times_at s (t ∷ ts) (u ∷ us) e i =
    let a = and_parts (nat_eq t.id u.id) (eq_ℚ t.value (s *ℚ u.value) && are_times s ts us) e in
    let b = and_parts (eq_ℚ t.value (s *ℚ u.value)) (are_times s ts us) a.1 in
    by (eqb-true t.id u.id a.0) ((eq_ℚ-is t.value (s *ℚ u.value)).0 b.0) (times_at s ts us b.1 i) (cases_eq t.id i)
  where
    by : t.id ≡ u.id → t.value ≡ s *ℚ u.value → dense ts i ≡ s *ℚ dense us i → (t.id ≡ i) ⊎ (t.id ≢ i) → dense (t ∷ ts) i ≡ s *ℚ dense (u ∷ us) i
    by same value rest (inl f) = dense-cons_same t ts i f ∙ value ∙ ap (λ (q : Number). s *ℚ q) (sym (dense-cons_same u us i (sym same ∙ f)))
    by same value rest (inr n) = dense-cons_other t ts i n ∙ rest ∙ ap (λ (q : Number). s *ℚ q) (sym (dense-cons_other u us i (λ f. n (same ∙ f))))

-- s isn't 0, where there is an entry
pub times_some : (s : Number) (ts us : List Term) (m n : ℕ) → Ascends m n ts → not (has_none ts) ≡ true → are_times s ts us ≡ true → s ≢ zero_ℚ
times_some s [] us m n a h e = absurd (not_true h)
times_some s (t ∷ ts) [] m n a h e = absurd (not_true e)
times_some s (t ∷ ts) (u ∷ us) m n a h e =
    let b = and_parts (nat_eq t.id u.id) (eq_ℚ t.value (s *ℚ u.value) && are_times s ts us) e in
    let c = and_parts (eq_ℚ t.value (s *ℚ u.value)) (are_times s ts us) b.1 in
    λ z. a.2 ((eq_ℚ-is t.value (s *ℚ u.value)).0 c.0 ∙ ap (λ (q : Number). q *ℚ u.value) z ∙ zero_times u.value)
