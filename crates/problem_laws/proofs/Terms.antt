-- Lists of terms: those that a test selects, and those with an id.
use Rattle.std.proofs.Common.{◌≡◌, ◌≢◌, ℕ, suc, pred, ◌<◌, ◌≤◌, Bool, true, false, cond, nat_eq, ◌||◌, List, [], ◌∷◌, length, get_or, sym, refl, ap, ◌∙◌, arith, ◌⊎◌, inl, inr}
use Rattle.std.specs.Prelude.{if◌then◌else◌}
use Rattle.std.specs.List.{filter, All}
use Rattle.std.proofs.lemmas.Bool.{eq-eqb, ne_eqb, cases_eq}
use Rattle.std.proofs.lemmas.List.Elements.{All-nil, All-cons}
use Rattle.fractions.specs.Number.{zero_ℚ}
use Rattle.fractions.specs.Total.{put}
use Rattle.fractions.proofs.Totals.{put-same, put-other}
use Rattle.lp_model.specs.declared.terms.Term.{Term}
use Rattle.lp_model.specs.Sparse.{Ascends, dense, has, without}

pub not_both : {b : Bool} → b ≡ true → b ≡ false → ⊥
not_both e f = cc

-- ---- ids
pub has-cons_same : (k : ℕ) (t : Term) (ts : List Term) → t.id ≡ k → has k (t ∷ ts) ≡ true
has-cons_same k t ts e = rw (eq-eqb t.id k e) refl

pub has-cons_other : (k : ℕ) (t : Term) (ts : List Term) → t.id ≢ k → has k (t ∷ ts) ≡ has k ts
has-cons_other k t ts n = rw (ne_eqb t.id k n) refl

pub without-cons_same : (k : ℕ) (t : Term) (ts : List Term) → t.id ≡ k → without k (t ∷ ts) ≡ without k ts
without-cons_same k t ts e = rw (eq-eqb t.id k e) refl

pub without-cons_other : (k : ℕ) (t : Term) (ts : List Term) → t.id ≢ k → without k (t ∷ ts) ≡ t ∷ without k ts
without-cons_other k t ts n = rw (ne_eqb t.id k n) refl

pub dense-cons_same : (t : Term) (ts : List Term) (k : ℕ) → t.id ≡ k → dense (t ∷ ts) k ≡ t.value
dense-cons_same t ts k e = ap (put (dense ts) t.id t.value) (sym e) ∙ put-same (dense ts) t.id t.value

pub dense-cons_other : (t : Term) (ts : List Term) (k : ℕ) → t.id ≢ k → dense (t ∷ ts) k ≡ dense ts k
dense-cons_other t ts k n = put-other (dense ts) t.id t.value k (λ e. n (sym e))

pub without-absent : (k : ℕ) (ts : List Term) → has k ts ≡ false → without k ts ≡ ts
without-absent k [] h = refl
without-absent k (t ∷ ts) h = by (cases_eq t.id k) (without-absent k ts)
  where
    by : (t.id ≡ k) ⊎ (t.id ≢ k) → (has k ts ≡ false → without k ts ≡ ts) → without k (t ∷ ts) ≡ t ∷ ts
    by (inl e) ih = absurd (not_both (has-cons_same k t ts e) h)
    by (inr n) ih = without-cons_other k t ts n ∙ ap (λ us. t ∷ us) (ih (sym (has-cons_other k t ts n) ∙ h))

pub has-without : (k : ℕ) (ts : List Term) → has k (without k ts) ≡ false
has-without k [] = refl
has-without k (t ∷ ts) = by (cases_eq t.id k) (has-without k ts)
  where
    by : (t.id ≡ k) ⊎ (t.id ≢ k) → has k (without k ts) ≡ false → has k (without k (t ∷ ts)) ≡ false
    by (inl e) ih = ap (has k) (without-cons_same k t ts e) ∙ ih
    by (inr n) ih = ap (has k) (without-cons_other k t ts n) ∙ has-cons_other k t (without k ts) n ∙ ih

pub has-without_other : (k m : ℕ) (ts : List Term) → m ≢ k → has m (without k ts) ≡ has m ts
has-without_other k m [] n = refl
has-without_other k m (t ∷ ts) n = by (cases_eq t.id k) (has-without_other k m ts n)
  where
    by : (t.id ≡ k) ⊎ (t.id ≢ k) → has m (without k ts) ≡ has m ts → has m (without k (t ∷ ts)) ≡ has m (t ∷ ts)
    by (inl e) ih = ap (has m) (without-cons_same k t ts e) ∙ ih ∙ sym (has-cons_other m t ts (λ f. n (sym f ∙ e)))
    by (inr o) ih = ap (has m) (without-cons_other k t ts o) ∙ ap (λ b. nat_eq t.id m || b) ih

-- leaving a term out puts 0 there
pub dense-without : (k : ℕ) (ts : List Term) (m : ℕ) → dense (without k ts) m ≡ put (dense ts) k zero_ℚ m
dense-without k ts m = by (cases_eq m k)
  where
    here : (us : List Term) → dense (without k us) k ≡ zero_ℚ
    here [] = refl
    here (t ∷ us) = at (cases_eq t.id k) (here us)
      where
        at : (t.id ≡ k) ⊎ (t.id ≢ k) → dense (without k us) k ≡ zero_ℚ → dense (without k (t ∷ us)) k ≡ zero_ℚ
        at (inl e) ih = ap (λ vs. dense vs k) (without-cons_same k t us e) ∙ ih
        at (inr n) ih = ap (λ vs. dense vs k) (without-cons_other k t us n) ∙ dense-cons_other t (without k us) k n ∙ ih

    there : m ≢ k → (us : List Term) → dense (without k us) m ≡ dense us m
    there n [] = refl
    there n (t ∷ us) = at (cases_eq t.id k) (cases_eq t.id m) (there n us)
      where
        at : (t.id ≡ k) ⊎ (t.id ≢ k) → (t.id ≡ m) ⊎ (t.id ≢ m) → dense (without k us) m ≡ dense us m → dense (without k (t ∷ us)) m ≡ dense (t ∷ us) m
        at (inl e) o ih = ap (λ vs. dense vs m) (without-cons_same k t us e) ∙ ih ∙ sym (dense-cons_other t us m (λ f. n (sym f ∙ e)))
        at (inr d) (inl f) ih = ap (λ vs. dense vs m) (without-cons_other k t us d) ∙ dense-cons_same t (without k us) m f ∙ sym (dense-cons_same t us m f)
        at (inr d) (inr g) ih = ap (λ vs. dense vs m) (without-cons_other k t us d) ∙ dense-cons_other t (without k us) m g ∙ ih ∙ sym (dense-cons_other t us m g)

    by : (m ≡ k) ⊎ (m ≢ k) → dense (without k ts) m ≡ put (dense ts) k zero_ℚ m
    by (inl e) = ap (dense (without k ts)) e ∙ here ts ∙ sym (put-same (dense ts) k zero_ℚ) ∙ ap (put (dense ts) k zero_ℚ) (sym e)
    by (inr n) = there n ts ∙ sym (put-other (dense ts) k zero_ℚ m n)

-- ---- what has an id, and what number stands there
pub dense-absent : (k : ℕ) (ts : List Term) → has k ts ≡ false → dense ts k ≡ zero_ℚ
dense-absent k [] h = refl
dense-absent k (t ∷ ts) h = by (cases_eq t.id k) (dense-absent k ts)
  where
    by : (t.id ≡ k) ⊎ (t.id ≢ k) → (has k ts ≡ false → dense ts k ≡ zero_ℚ) → dense (t ∷ ts) k ≡ zero_ℚ
    by (inl e) ih = absurd (not_both (has-cons_same k t ts e) h)
    by (inr n) ih = dense-cons_other t ts k n ∙ ih (sym (has-cons_other k t ts n) ∙ h)

pub dense-named : (k : ℕ) (ts : List Term) (m n : ℕ) → Ascends m n ts → has k ts ≡ true → dense ts k ≢ zero_ℚ
dense-named k [] m n a h = absurd (not_both h refl)
dense-named k (t ∷ ts) m n a h = by (cases_eq t.id k) (dense-named k ts (suc t.id) n a.3)
  where
    by : (t.id ≡ k) ⊎ (t.id ≢ k) → (has k ts ≡ true → dense ts k ≢ zero_ℚ) → dense (t ∷ ts) k ≢ zero_ℚ
    by (inl e) ih f = a.2 (sym (dense-cons_same t ts k e) ∙ f)
    by (inr d) ih f = ih (sym (has-cons_other k t ts d) ∙ h) (sym (dense-cons_other t ts k d) ∙ f)

pub named_by : (k : ℕ) (ts : List Term) → dense ts k ≢ zero_ℚ → has k ts ≡ true
named_by k ts n = by (has k ts) refl
  where
    by : (b : Bool) → has k ts ≡ b → b ≡ true
    by true e = refl
    by false e = absurd (n (dense-absent k ts e))

-- two lists of terms with the same numbers have the same ids
pub same_ids : (k m a b c d : ℕ) (ts us : List Term) → Ascends a b ts → Ascends c d us → dense ts k ≡ dense us m → has k ts ≡ has m us
same_ids k m a b c d ts us f g e = by (has k ts) (has m us) refl refl
  where
    by : (x y : Bool) → has k ts ≡ x → has m us ≡ y → x ≡ y
    by true true p q = refl
    by true false p q = absurd (dense-named k ts a b f p (e ∙ dense-absent m us q))
    by false true p q = absurd (dense-named m us c d g q (sym e ∙ dense-absent k ts p))
    by false false p q = refl

-- ---- ascending ids
pub ascends-wider : (ts : List Term) (m p n : ℕ) → p ≤ m → Ascends m n ts → Ascends p n ts
ascends-wider [] m p n l a = tt
ascends-wider (t ∷ ts) m p n l a = (omega (arith, a.0), a.1, a.2, a.3)

pub has-below : (ts : List Term) (m n k : ℕ) → Ascends m n ts → k < m → has k ts ≡ false
has-below [] m n k a l = refl
has-below (t ∷ ts) m n k a l = let d : t.id ≢ k = omega (arith, a.0) in has-cons_other k t ts d ∙ has-below ts (suc t.id) n k a.3 (omega (arith, a.0))

pub has-beyond : (ts : List Term) (m n k : ℕ) → Ascends m n ts → n ≤ k → has k ts ≡ false
has-beyond [] m n k a l = refl
has-beyond (t ∷ ts) m n k a l = let d : t.id ≢ k = omega (arith, a.1) in has-cons_other k t ts d ∙ has-beyond ts (suc t.id) n k a.3 l

pub ids_below : (ts : List Term) (m n : ℕ) → Ascends m n ts → All (λ t. t.id < n) ts
ids_below [] m n a = All-nil (λ t. t.id < n)
ids_below (t ∷ ts) m n a = All-cons (λ t. t.id < n) t ts a.1 (ids_below ts (suc t.id) n a.3)

pub none_zero : (ts : List Term) (m n : ℕ) → Ascends m n ts → All (λ t. t.value ≢ zero_ℚ) ts
none_zero [] m n a = All-nil (λ t. t.value ≢ zero_ℚ)
none_zero (t ∷ ts) m n a = All-cons (λ t. t.value ≢ zero_ℚ) t ts a.2 (none_zero ts (suc t.id) n a.3)

pub ids_from : (ts : List Term) (m n : ℕ) → Ascends m n ts → All (λ t. m ≤ t.id) ts
ids_from [] m n a = All-nil (λ t. m ≤ t.id)
ids_from (t ∷ ts) m n a = All-cons (λ t. m ≤ t.id) t ts a.0 (λ i d l. let h = ids_from ts (suc t.id) n a.3 i d l in omega (arith, h, a.0))

-- each term gives the number at its id
pub terms_tell : (ts : List Term) (m n : ℕ) → Ascends m n ts → All (λ t. dense ts t.id ≡ t.value) ts
terms_tell [] m n a = All-nil (λ t. dense [] t.id ≡ t.value)
terms_tell (t ∷ ts) m n a = All-cons (λ u. dense (t ∷ ts) u.id ≡ u.value) t ts (dense-cons_same t ts t.id refl)
    (λ i d l. let h = ids_from ts (suc t.id) n a.3 i d l in let e : t.id ≢ (get_or ts i d).id = omega (arith, h) in
    dense-cons_other t ts (get_or ts i d).id e ∙ terms_tell ts (suc t.id) n a.3 i d l)

pub ascends-filter : (q : Term → Bool) (ts : List Term) (m n : ℕ) → Ascends m n ts → Ascends m n (filter q ts)
ascends-filter q [] m n a = tt
ascends-filter q (t ∷ ts) m n a = by (q t) (ascends-filter q ts (suc t.id) n a.3)
  where
    by : (b : Bool) → Ascends (suc t.id) n (filter q ts) → Ascends m n (cond b (t ∷ filter q ts) (filter q ts))
    by true ih = (a.0, a.1, a.2, ih)
    by false ih = ascends-wider (filter q ts) (suc t.id) m n (omega (arith, a.0)) ih

-- an id stands once
suc_pred : (k : ℕ) (ts : List Term) → has k ts ≡ true → suc (pred (length ts)) ≡ length ts
suc_pred k [] h = absurd (not_both h refl)
suc_pred k (t ∷ ts) h = refl

pub length-without : (k : ℕ) (ts : List Term) (m n : ℕ) → Ascends m n ts → length (without k ts) ≡ if has k ts then pred (length ts) else length ts
length-without k [] m n a = refl
length-without k (t ∷ ts) m n a = by (cases_eq t.id k) (length-without k ts (suc t.id) n a.3)
  where
    at : (b : Bool) → has k ts ≡ b → suc (if b then pred (length ts) else length ts) ≡ if b then length ts else suc (length ts)
    at true h = suc_pred k ts h
    at false h = refl

    by : (t.id ≡ k) ⊎ (t.id ≢ k) → length (without k ts) ≡ if has k ts then pred (length ts) else length ts
        → length (without k (t ∷ ts)) ≡ if has k (t ∷ ts) then length ts else suc (length ts)
    by (inl e) ih = let none : has k ts ≡ false = has-below ts (suc t.id) n k a.3 (omega (arith, e)) in
        ap length (without-cons_same k t ts e ∙ without-absent k ts none) ∙ sym (ap (λ (b : Bool). if b then length ts else suc (length ts)) (has-cons_same k t ts e))
    by (inr d) ih = ap length (without-cons_other k t ts d) ∙ ap suc ih ∙ at (has k ts) refl
        ∙ sym (ap (λ (b : Bool). if b then length ts else suc (length ts)) (has-cons_other k t ts d))
