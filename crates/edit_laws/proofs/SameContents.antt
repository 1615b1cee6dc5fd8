-- The test whether two contents are the same.
use Rattle.std.proofs.Common.{◌≡◌, ◌≢◌, ℕ, nat_eq, Bool, true, false, ◌&&◌, List, [], ◌∷◌, Option, refl, sym, ap, ap₂, ◌∙◌, ◌⊎◌, inl, inr}
use Rattle.std.proofs.lemmas.Bool.{eq-eqb, cases_eq, ne_eqb}
use Rattle.fractions.specs.Number.{Number}
use Rattle.fractions.specs.Compare.{eq_ℚ}
use Rattle.fractions.specs.Ends.{same_end}
use Rattle.fractions.specs.Comparisons.{eq_ℚ-is}
use Rattle.fractions.proofs.EndLaws.{same_end-is}
use Rattle.lp_model.specs.declared.terms.Term.{Term}
use Rattle.problem_model.specs.declared.part.Contents.{Contents}
use Rattle.problem_model.specs.declared.part.Contents.TheVariants as holds
use Rattle.problem_model.specs.Raised.{same_terms, same_bit, same_contents}
use Rattle.problem_laws.proofs.Terms.{not_both}

both : (a b : Bool) → (a && b) ≡ true → (a ≡ true) × (b ≡ true)
both true b h = (refl, h)
both false b h = absurd (not_both h refl)

join : {a b : Bool} → a ≡ true → b ≡ true → (a && b) ≡ true
join e f = ap₂ (λ (x y : Bool). x && y) e f

id_is : (k i : ℕ) → nat_eq k i ≡ true → k ≡ i
id_is k i h = by (cases_eq k i)
  where
    by : (k ≡ i) ⊎ (k ≢ i) → k ≡ i
    by (inl e) = e
    by (inr n) = absurd (not_both h (ne_eqb k i n))

-- ---- what is found the same is the same
same_terms-is : (ts us : List Term) → same_terms ts us ≡ true → ts ≡ us
same_terms-is [] [] h = refl
same_terms-is [] (u ∷ us) h = absurd (not_both h refl)
same_terms-is (t ∷ ts) [] h = absurd (not_both h refl)
same_terms-is (t ∷ ts) (u ∷ us) h =
    let f = both (nat_eq t.id u.id) (eq_ℚ t.value u.value && same_terms ts us) h in
    let g = both (eq_ℚ t.value u.value) (same_terms ts us) f.1 in
    ap₂ (λ (v : Term) (vs : List Term). v ∷ vs) (λ i. record { id = id_is t.id u.id f.0 i; value = (eq_ℚ-is t.value u.value).0 g.0 i }) (same_terms-is ts us g.1)

same_bit-is : (a b : Bool) → same_bit a b ≡ true → a ≡ b
same_bit-is true b h = sym h
same_bit-is false true h = absurd (not_both h refl)
same_bit-is false false h = refl

pub same_contents-is : (c d : Contents) → same_contents c d ≡ true → c ≡ d
same_contents-is holds.Gone holds.Gone h = refl
same_contents-is holds.Gone (holds.Entries us) h = absurd (not_both h refl)
same_contents-is holds.Gone (holds.Sides m v) h = absurd (not_both h refl)
same_contents-is holds.Gone (holds.Column us d) h = absurd (not_both h refl)
same_contents-is holds.Gone (holds.Bounds m v x) h = absurd (not_both h refl)
same_contents-is holds.Gone (holds.Semi m v x) h = absurd (not_both h refl)
same_contents-is (holds.Entries ts) (holds.Entries us) h = ap holds.Entries (same_terms-is ts us h)
same_contents-is (holds.Entries ts) holds.Gone h = absurd (not_both h refl)
same_contents-is (holds.Entries ts) (holds.Sides m v) h = absurd (not_both h refl)
same_contents-is (holds.Entries ts) (holds.Column us d) h = absurd (not_both h refl)
same_contents-is (holds.Entries ts) (holds.Bounds m v x) h = absurd (not_both h refl)
same_contents-is (holds.Entries ts) (holds.Semi m v x) h = absurd (not_both h refl)
same_contents-is (holds.Sides l u) (holds.Sides m v) h =
    let f = both (same_end l m) (same_end u v) h in ap₂ holds.Sides ((same_end-is l m).0 f.0) ((same_end-is u v).0 f.1)
same_contents-is (holds.Sides l u) holds.Gone h = absurd (not_both h refl)
same_contents-is (holds.Sides l u) (holds.Entries us) h = absurd (not_both h refl)
same_contents-is (holds.Sides l u) (holds.Column us d) h = absurd (not_both h refl)
same_contents-is (holds.Sides l u) (holds.Bounds m v x) h = absurd (not_both h refl)
same_contents-is (holds.Sides l u) (holds.Semi m v x) h = absurd (not_both h refl)
same_contents-is (holds.Column ts c) (holds.Column us d) h =
    let f = both (same_terms ts us) (eq_ℚ c d) h in ap₂ holds.Column (same_terms-is ts us f.0) ((eq_ℚ-is c d).0 f.1)
same_contents-is (holds.Column ts c) holds.Gone h = absurd (not_both h refl)
same_contents-is (holds.Column ts c) (holds.Entries us) h = absurd (not_both h refl)
same_contents-is (holds.Column ts c) (holds.Sides m v) h = absurd (not_both h refl)
same_contents-is (holds.Column ts c) (holds.Bounds m v x) h = absurd (not_both h refl)
same_contents-is (holds.Column ts c) (holds.Semi m v x) h = absurd (not_both h refl)
same_contents-is (holds.Bounds l u w) (holds.Bounds m v x) h =
    let f = both (same_end l m) (same_end u v && same_bit w x) h in
    let g = both (same_end u v) (same_bit w x) f.1 in
    λ i. holds.Bounds ((same_end-is l m).0 f.0 i) ((same_end-is u v).0 g.0 i) (same_bit-is w x g.1 i)
same_contents-is (holds.Bounds l u w) holds.Gone h = absurd (not_both h refl)
same_contents-is (holds.Bounds l u w) (holds.Entries us) h = absurd (not_both h refl)
same_contents-is (holds.Bounds l u w) (holds.Sides m v) h = absurd (not_both h refl)
same_contents-is (holds.Bounds l u w) (holds.Column us d) h = absurd (not_both h refl)
same_contents-is (holds.Bounds l u w) (holds.Semi m v x) h = absurd (not_both h refl)
same_contents-is (holds.Semi l u w) (holds.Semi m v x) h =
    let f = both (same_end l m) (same_end u v && same_bit w x) h in
    let g = both (same_end u v) (same_bit w x) f.1 in
    λ i. holds.Semi ((same_end-is l m).0 f.0 i) ((same_end-is u v).0 g.0 i) (same_bit-is w x g.1 i)
same_contents-is (holds.Semi l u w) holds.Gone h = absurd (not_both h refl)
same_contents-is (holds.Semi l u w) (holds.Entries us) h = absurd (not_both h refl)
same_contents-is (holds.Semi l u w) (holds.Sides m v) h = absurd (not_both h refl)
same_contents-is (holds.Semi l u w) (holds.Column us d) h = absurd (not_both h refl)
same_contents-is (holds.Semi l u w) (holds.Bounds m v x) h = absurd (not_both h refl)

-- ---- and what is the same is found so
terms_self : (ts : List Term) → same_terms ts ts ≡ true
terms_self [] = refl
terms_self (t ∷ ts) = join (eq-eqb t.id t.id refl) (join ((eq_ℚ-is t.value t.value).1 refl) (terms_self ts))

bit_self : (b : Bool) → same_bit b b ≡ true
bit_self true = refl
bit_self false = refl

end_self : (e : Option Number) → same_end e e ≡ true
end_self e = (same_end-is e e).1 refl

contents_self : (c : Contents) → same_contents c c ≡ true
contents_self holds.Gone = refl
contents_self (holds.Entries ts) = terms_self ts
contents_self (holds.Sides l u) = join (end_self l) (end_self u)
contents_self (holds.Column ts c) = join (terms_self ts) ((eq_ℚ-is c c).1 refl)
contents_self (holds.Bounds l u w) = join (end_self l) (join (end_self u) (bit_self w))
contents_self (holds.Semi l u w) = join (end_self l) (join (end_self u) (bit_self w))

pub is-same_contents : (c d : Contents) → c ≡ d → same_contents c d ≡ true
is-same_contents c d e = ap (λ (x : Contents). same_contents c x) (sym e) ∙ contents_self c

pub other-same_contents : (c d : Contents) → c ≢ d → same_contents c d ≡ false
other-same_contents c d n = by (same_contents c d) refl
  where
    by : (b : Bool) → same_contents c d ≡ b → b ≡ false
    by true e = absurd (n (same_contents-is c d e))
    by false e = refl
