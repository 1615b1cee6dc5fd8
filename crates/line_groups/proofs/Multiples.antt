-- Lines of which one is a multiple of another have the same key.
use Rattle.std.proofs.Common.{◌≡◌, ◌≢◌, ℕ, true, not, ◌&&◌, nat_eq, List, [], ◌∷◌, Option, Some, refl, sym, ap, ◌∙◌, pos}
use Rattle.std.specs.List.{All}
use Rattle.std.proofs.lemmas.Bool.{and_parts, eqb-true}
use Rattle.std.proofs.lemmas.List.Elements.{All-head}
use Rattle.fractions.specs.Number.{Number, rational, zero_ℚ, ◌*ℚ◌}
use Rattle.fractions.specs.Ring.{ring, v, num, ◌:*◌}
use Rattle.fractions.specs.Compare.{eq_ℚ}
use Rattle.fractions.specs.Division.{◌/ℚ◌}
use Rattle.fractions.specs.Comparisons.{eq_ℚ-is}
use Rattle.fractions.specs.Signs.{over-times, times-over}
use Rattle.lp_model.specs.declared.terms.Term.{Term}
use Rattle.rule_words.specs.Entries.{has_none}
use Rattle.rule_words.proofs.EndTestsSay.{not_true}
use Rattle.rule_words.specs.Multiples.{are_times}
use Rattle.line_groups.specs.Keys.{by_ends, key_of, last_number, mixed, with_ends, with_ids, with_number}

pub times_zero : (s : Number) → zero_ℚ ≡ s *ℚ zero_ℚ
times_zero s = ring rational (s ∷ []) (num (pos 0)) (v 0 :* num (pos 0)) refl

-- s a over s b is a over b
over_same : (s a b : Number) → (s *ℚ b) ≢ zero_ℚ → b ≢ zero_ℚ → (s *ℚ a) /ℚ (s *ℚ b) ≡ a /ℚ b
over_same s a b n m =
    ap (λ (x : Number). (s *ℚ x) /ℚ (s *ℚ b)) (sym (over-times b a m))
    ∙ ap (λ (x : Number). x /ℚ (s *ℚ b)) (ring rational (s ∷ b ∷ (a /ℚ b) ∷ []) (v 0 :* (v 1 :* v 2)) ((v 0 :* v 1) :* v 2) refl)
    ∙ times-over (s *ℚ b) (a /ℚ b) n

quotients_same : (s a b x y : Number) → x ≡ s *ℚ a → y ≡ s *ℚ b → y ≢ zero_ℚ → b ≢ zero_ℚ → x /ℚ y ≡ a /ℚ b
quotients_same s a b x y e f n m = ap (λ (z : Number). z /ℚ y) e ∙ ap (λ (z : Number). (s *ℚ a) /ℚ z) f ∙ over_same s a b (λ z. n (f ∙ z)) m

module _ (s : Number) where
  -- what each entry of one says of that of the other
  step : (t u : Term) (ts us : List Term) → are_times s (t ∷ ts) (u ∷ us) ≡ true → (t.id ≡ u.id) × (t.value ≡ s *ℚ u.value) × (are_times s ts us ≡ true)
  step t u ts us x =
      let a = and_parts (nat_eq t.id u.id) (eq_ℚ t.value (s *ℚ u.value) && are_times s ts us) x in
      let b = and_parts (eq_ℚ t.value (s *ℚ u.value)) (are_times s ts us) a.1 in
      (eqb-true t.id u.id a.0, (eq_ℚ-is t.value (s *ℚ u.value)).0 b.0, b.1)

  ids_same : (h : ℕ) (ts us : List Term) → are_times s ts us ≡ true → with_ids h ts ≡ with_ids h us
  ids_same h [] [] x = refl
  ids_same h [] (u ∷ us) x = absurd (not_true x)
  ids_same h (t ∷ ts) [] x = absurd (not_true x)
  ids_same h (t ∷ ts) (u ∷ us) x =
      let a = step t u ts us x in
      ap (λ (k : ℕ). with_ids (mixed h k) ts) a.0 ∙ ids_same (mixed h u.id) ts us a.2

  record AreLast (o q : Option Number) : Type 0 where
    first : Number
    second : Number
    is : o ≡ Some first
    other : q ≡ Some second
    times : first ≡ s *ℚ second

  last_same : (t u : Term) (ts us : List Term) → are_times s (t ∷ ts) (u ∷ us) ≡ true → AreLast (last_number (t ∷ ts)) (last_number (u ∷ us))
  last_same t u [] [] x = record { first = t.value; second = u.value; is = refl; other = refl; times = (step t u [] [] x).1 }
  last_same t u [] (w ∷ us) x = absurd (not_true (step t u [] (w ∷ us) x).2)
  last_same t u (r ∷ ts) [] x = absurd (not_true (step t u (r ∷ ts) [] x).2)
  last_same t u (r ∷ ts) (w ∷ us) x = last_same r w ts us (step t u (r ∷ ts) (w ∷ us) x).2

pub key_same : (s c d : Number) (ts us : List Term) → not (has_none ts) ≡ true → c ≡ s *ℚ d → are_times s ts us ≡ true → All (λ t. t.value ≢ zero_ℚ) ts → All (λ t. t.value ≢ zero_ℚ) us
    → (h : ℕ) × (key_of c ts ≡ Some h) × (key_of d us ≡ Some h)
key_same s c d [] us h e x a b = absurd (not_true h)
key_same s c d (t ∷ ts) [] h e x a b = absurd (not_true x)
key_same s c d (t ∷ ts) (u ∷ us) h e x a b =
    let value : t.value ≡ s *ℚ u.value = (step s t u ts us x).1 in
    let n : t.value ≢ zero_ℚ = All-head (λ (t : Term). t.value ≢ zero_ℚ) t ts a in
    let m : u.value ≢ zero_ℚ = All-head (λ (t : Term). t.value ≢ zero_ℚ) u us b in
    let l = last_same s t u ts us x in
    let made : with_ends (with_ids 0 (t ∷ ts)) t.value l.first c ≡ with_ends (with_ids 0 (u ∷ us)) u.value l.second d =
    ap (λ (k : ℕ). with_ends k t.value l.first c) (ids_same s 0 (t ∷ ts) (u ∷ us) x)
    ∙ ap (λ (q : Number). with_number (with_number (with_ids 0 (u ∷ us)) q) (l.first /ℚ t.value)) (quotients_same s d u.value c t.value e value n m)
    ∙ ap (λ (q : Number). with_number (with_number (with_ids 0 (u ∷ us)) (d /ℚ u.value)) q) (quotients_same s l.second u.value l.first t.value l.times value n m) in (
      with_ends (with_ids 0 (u ∷ us)) u.value l.second d,
      ap (by_ends (with_ids 0 (t ∷ ts)) c (Some t.value)) l.is ∙ ap (λ (k : ℕ). Some k) made,
      ap (by_ends (with_ids 0 (u ∷ us)) d (Some u.value)) l.other,
    )
