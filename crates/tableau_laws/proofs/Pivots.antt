-- A pivot keeps the points that solve a tableau, and what they cost.
use Rattle.std.proofs.Common.{◌≡◌, ◌≢◌, ℕ, ◌<◌, pos, sym, refl, ap, ap₂, ◌∙◌, [], ◌∷◌, inl, inr, true, false, true≢false}
use Rattle.std.proofs.lemmas.Bool.{cases_eq}
use Rattle.fractions.specs.Ring.{ring, v, num, ◌:+◌, ◌:-◌, ◌:*◌, inv}
use Rattle.fractions.specs.Number.{Number, rational, zero_ℚ, one_ℚ, ◌+ℚ◌, ◌-ℚ◌, ◌*ℚ◌, neg_ℚ}
use Rattle.fractions.specs.Inverse.{inv_ℚ, ◌/ℚ◌, *ℚ-inv_ℚ}
use Rattle.fractions.specs.Total.{total, put}
use Rattle.fractions.proofs.Totals.{total_same, total-+, total-*, total-put_factor, put-same, put-other, at_or_off}
use Rattle.lp_model.specs.Vectors.{Vector}
use Rattle.tableau_laws.specs.Tableaus.{Tableau, turned_row, replaced, pivoted, Solves, CanPivot}
use Rattle.tableau_laws.specs.Keeping.{IsSplit}

-- the sum of the entering variable's row, by that of the leaving one, r
pub line_sum : (N : ℕ) (r x : Vector) (b e : ℕ) → b < N → e < N → b ≢ e → r b ≡ zero_ℚ → r e ≢ zero_ℚ
    → total N (λ k. put (put (λ k. neg_ℚ (r k /ℚ r e)) e zero_ℚ) b (one_ℚ /ℚ r e) k *ℚ x k) ≡ x e +ℚ inv_ℚ (r e) *ℚ (x b -ℚ total N (λ k. r k *ℚ x k))
line_sum N r x b e lb le ne rb re =
    total-put_factor N (put (λ k. neg_ℚ (r k /ℚ r e)) e zero_ℚ) x b (one_ℚ /ℚ r e) lb
    ∙ ap₂ (λ s g. s +ℚ ((one_ℚ /ℚ r e) -ℚ g) *ℚ x b)
    (total-put_factor N (λ k. neg_ℚ (r k /ℚ r e)) x e zero_ℚ le ∙ ap (λ s. s +ℚ (zero_ℚ -ℚ neg_ℚ (r e /ℚ r e)) *ℚ x e) scaled)
    (put-other (λ k. neg_ℚ (r k /ℚ r e)) e zero_ℚ b ne)
    ∙ ap₂ (λ p q. (neg_ℚ (inv_ℚ (r e)) *ℚ total N (λ k. r k *ℚ x k) +ℚ (zero_ℚ -ℚ neg_ℚ p) *ℚ x e) +ℚ ((one_ℚ *ℚ inv_ℚ (r e)) -ℚ neg_ℚ (q *ℚ inv_ℚ (r e))) *ℚ x b) (*ℚ-inv_ℚ (r e) re) rb
    ∙ ring rational (inv_ℚ (r e) ∷ total N (λ k. r k *ℚ x k) ∷ x e ∷ x b ∷ [])
    ((inv (v 0) :* v 1 :+ (num (pos 0) :- inv (num (pos 1))) :* v 2) :+ ((num (pos 1) :* v 0) :- inv (num (pos 0) :* v 0)) :* v 3)
    (v 2 :+ v 0 :* (v 3 :- v 1)) refl
  where
    scaled : total N (λ k. neg_ℚ (r k /ℚ r e) *ℚ x k) ≡ neg_ℚ (inv_ℚ (r e)) *ℚ total N (λ k. r k *ℚ x k)
    scaled = total_same N _ (λ k. neg_ℚ (inv_ℚ (r e)) *ℚ (r k *ℚ x k)) (λ k l. ring rational (r k ∷ inv_ℚ (r e) ∷ x k ∷ []) (inv (v 0 :* v 1) :* v 2) (inv (v 1) :* (v 0 :* v 2)) refl)
        ∙ total-* N (neg_ℚ (inv_ℚ (r e))) (λ k. r k *ℚ x k)

-- the sum of a row f with the row `line` in the place of e
pub replaced_sum : (N : ℕ) (line f x : Vector) (b e : ℕ) → b < N → e < N → b ≢ e → f b ≡ zero_ℚ → line e ≡ zero_ℚ
    → total N (λ k. put (put (λ k. f k +ℚ f e *ℚ line k) e zero_ℚ) b (f e *ℚ line b) k *ℚ x k) ≡ total N (λ k. f k *ℚ x k) +ℚ f e *ℚ (total N (λ k. line k *ℚ x k) -ℚ x e)
replaced_sum N line f x b e lb le ne fb li =
    total-put_factor N (put (λ k. f k +ℚ f e *ℚ line k) e zero_ℚ) x b (f e *ℚ line b) lb
    ∙ ap₂ (λ s g. s +ℚ ((f e *ℚ line b) -ℚ g) *ℚ x b)
    (total-put_factor N (λ k. f k +ℚ f e *ℚ line k) x e zero_ℚ le ∙ ap (λ s. s +ℚ (zero_ℚ -ℚ (f e +ℚ f e *ℚ line e)) *ℚ x e) parts)
    (put-other (λ k. f k +ℚ f e *ℚ line k) e zero_ℚ b ne)
    ∙ ap₂ (λ p q. ((total N (λ k. f k *ℚ x k) +ℚ f e *ℚ total N (λ k. line k *ℚ x k)) +ℚ (zero_ℚ -ℚ (f e +ℚ f e *ℚ p)) *ℚ x e) +ℚ ((f e *ℚ line b) -ℚ (q +ℚ f e *ℚ line b)) *ℚ x b) li fb
    ∙ ring rational (total N (λ k. f k *ℚ x k) ∷ f e ∷ total N (λ k. line k *ℚ x k) ∷ x e ∷ line b ∷ x b ∷ [])
    (((v 0 :+ v 1 :* v 2) :+ (num (pos 0) :- (v 1 :+ v 1 :* num (pos 0))) :* v 3) :+ ((v 1 :* v 4) :- (num (pos 0) :+ v 1 :* v 4)) :* v 5)
    (v 0 :+ v 1 :* (v 2 :- v 3)) refl
  where
    parts : total N (λ k. (f k +ℚ f e *ℚ line k) *ℚ x k) ≡ total N (λ k. f k *ℚ x k) +ℚ f e *ℚ total N (λ k. line k *ℚ x k)
    parts = total_same N _ (λ k. f k *ℚ x k +ℚ f e *ℚ (line k *ℚ x k)) (λ k l. ring rational (f k ∷ f e ∷ line k ∷ x k ∷ []) ((v 0 :+ v 1 :* v 2) :* v 3) (v 0 :* v 3 :+ v 1 :* (v 2 :* v 3)) refl)
        ∙ total-+ N (λ k. f k *ℚ x k) (λ k. f e *ℚ (line k *ℚ x k))
        ∙ ap (λ s. total N (λ k. f k *ℚ x k) +ℚ s) (total-* N (f e) (λ k. line k *ℚ x k))

-- ---- the parts of a pivoted tableau
pub apart : (t : Tableau) (b e : ℕ) → CanPivot t b e → b ≢ e
apart t b e h q = true≢false (sym h.b_basic ∙ ap t.basic q ∙ h.e_other)

pub line_e : (t : Tableau) (b e : ℕ) → b ≢ e → turned_row t b e e ≡ zero_ℚ
line_e t b e n = put-other (put (λ k. neg_ℚ (t.table b k /ℚ t.table b e)) e zero_ℚ) b (one_ℚ /ℚ t.table b e) e (λ q. n (sym q))
    ∙ put-same (λ k. neg_ℚ (t.table b k /ℚ t.table b e)) e zero_ℚ

pub basic_e : (t : Tableau) (b e : ℕ) (w : Number) → (pivoted t b e w).basic e ≡ true
basic_e t b e w = put-same (put t.basic b false) e true

pub basic_b : (t : Tableau) (b e : ℕ) (w : Number) → b ≢ e → (pivoted t b e w).basic b ≡ false
basic_b t b e w n = put-other (put t.basic b false) e true b n ∙ put-same t.basic b false

pub basic_m : (t : Tableau) (b e : ℕ) (w : Number) (m : ℕ) → m ≢ e → m ≢ b → (pivoted t b e w).basic m ≡ t.basic m
basic_m t b e w m n o = put-other (put t.basic b false) e true m n ∙ put-other t.basic b false m o

pub table_e : (t : Tableau) (b e : ℕ) (w : Number) → (pivoted t b e w).table e ≡ turned_row t b e
table_e t b e w = put-same (put (λ m. replaced t b e (t.table m)) b (λ k. zero_ℚ)) e (turned_row t b e)

pub table_b : (t : Tableau) (b e : ℕ) (w : Number) → b ≢ e → (pivoted t b e w).table b ≡ (λ k. zero_ℚ)
table_b t b e w n = put-other (put (λ m. replaced t b e (t.table m)) b (λ k. zero_ℚ)) e (turned_row t b e) b n ∙ put-same (λ m. replaced t b e (t.table m)) b (λ k. zero_ℚ)

pub table_m : (t : Tableau) (b e : ℕ) (w : Number) (m : ℕ) → m ≢ e → m ≢ b → (pivoted t b e w).table m ≡ replaced t b e (t.table m)
table_m t b e w m n o = put-other (put (λ m. replaced t b e (t.table m)) b (λ k. zero_ℚ)) e (turned_row t b e) m n ∙ put-other (λ m. replaced t b e (t.table m)) b (λ k. zero_ℚ) m o

-- the three places of a variable
pub at_three : (P : ℕ → Type 0) (b e : ℕ) → P e → (b ≢ e → P b) → ((m : ℕ) → m ≢ e → m ≢ b → P m) → (m : ℕ) → P m
at_three P b e here there off = at_or_off P e here (λ m n. elim (cases_eq m b) [ inl q ↦ rw q (there (λ r. n (q ∙ r))) | inr o ↦ off m n o ])

-- ---- the same points
-- a row's sum where the entering variable has its row's
kept_sum : (t : Tableau) (b e : ℕ) (f x : Vector) → CanPivot t b e → f b ≡ zero_ℚ → total t.size (λ k. turned_row t b e k *ℚ x k) ≡ x e → total t.size (λ k. replaced t b e f k *ℚ x k) ≡ total t.size (λ k. f k *ℚ x k)
kept_sum t b e f x h fb l =
    replaced_sum t.size (turned_row t b e) f x b e h.b_within h.e_within (apart t b e h) fb (line_e t b e (apart t b e h))
    ∙ ap (λ s. total t.size (λ k. f k *ℚ x k) +ℚ f e *ℚ (s -ℚ x e)) l
    ∙ ring rational (total t.size (λ k. f k *ℚ x k) ∷ f e ∷ x e ∷ []) (v 0 :+ v 1 :* (v 2 :- v 2)) (v 0) refl

line_by : (t : Tableau) (b e : ℕ) (x : Vector) → IsSplit t → CanPivot t b e → total t.size (λ k. turned_row t b e k *ℚ x k) ≡ x e +ℚ inv_ℚ (t.table b e) *ℚ (x b -ℚ total t.size (λ k. t.table b k *ℚ x k))
line_by t b e x s h = line_sum t.size (t.table b) x b e h.b_within h.e_within (apart t b e h) (s.columns b b h.b_within h.b_within h.b_basic) h.not_zero

pub line_is : (t : Tableau) (b e : ℕ) (x : Vector) → IsSplit t → CanPivot t b e → Solves t x → total t.size (λ k. turned_row t b e k *ℚ x k) ≡ x e
line_is t b e x s h o = line_by t b e x s h
    ∙ ap (λ z. x e +ℚ inv_ℚ (t.table b e) *ℚ (z -ℚ total t.size (λ k. t.table b k *ℚ x k))) (o b h.b_within h.b_basic)
    ∙ ring rational (x e ∷ inv_ℚ (t.table b e) ∷ total t.size (λ k. t.table b k *ℚ x k) ∷ []) (v 0 :+ v 1 :* (v 2 :- v 2)) (v 0) refl

-- and back
leaving_is : (t : Tableau) (b e : ℕ) (x : Vector) → IsSplit t → CanPivot t b e → total t.size (λ k. turned_row t b e k *ℚ x k) ≡ x e → x b ≡ total t.size (λ k. t.table b k *ℚ x k)
leaving_is t b e x s h l =
    let R : Number = total t.size (λ k. t.table b k *ℚ x k) in
    let i : Number = inv_ℚ (t.table b e) in
    ring rational (x b ∷ R ∷ []) (v 0) (v 1 :+ num (pos 1) :* (v 0 :- v 1)) refl
    ∙ ap (λ z. R +ℚ z *ℚ (x b -ℚ R)) (sym (*ℚ-inv_ℚ (t.table b e) h.not_zero))
    ∙ ring rational (x b ∷ R ∷ t.table b e ∷ i ∷ x e ∷ []) (v 1 :+ (v 2 :* v 3) :* (v 0 :- v 1)) (v 1 :+ v 2 :* ((v 4 :+ v 3 :* (v 0 :- v 1)) :- v 4)) refl
    ∙ ap (λ z. R +ℚ t.table b e *ℚ (z -ℚ x e)) (sym (line_by t b e x s h) ∙ l)
    ∙ ring rational (R ∷ t.table b e ∷ x e ∷ []) (v 0 :+ v 1 :* (v 2 :- v 2)) (v 0) refl

pub pivot_keeps : (t : Tableau) (b e : ℕ) (w : Number) → IsSplit t → CanPivot t b e → (x : Vector) → Solves t x → Solves (pivoted t b e w) x
pivot_keeps t b e w s h x o = at_three (λ m. m < t.size → (pivoted t b e w).basic m ≡ true → x m ≡ total t.size (λ k. (pivoted t b e w).table m k *ℚ x k)) b e
    (λ l k. sym (ap (λ (r : Vector). total t.size (λ k. r k *ℚ x k)) (table_e t b e w) ∙ line_is t b e x s h o))
    (λ n l k. absurd (true≢false (sym k ∙ basic_b t b e w n)))
    (λ m n q l k. let k' : t.basic m ≡ true = sym (basic_m t b e w m n q) ∙ k in
    sym (ap (λ (r : Vector). total t.size (λ k. r k *ℚ x k)) (table_m t b e w m n q)
    ∙ kept_sum t b e (t.table m) x h (s.columns m b l h.b_within h.b_basic) (line_is t b e x s h o)
    ∙ sym (o m l k')))

pub pivot_keeps_back : (t : Tableau) (b e : ℕ) (w : Number) → IsSplit t → CanPivot t b e → (x : Vector) → Solves (pivoted t b e w) x → Solves t x
pivot_keeps_back t b e w s h x o = at_three (λ m. m < t.size → t.basic m ≡ true → x m ≡ total t.size (λ k. t.table m k *ℚ x k)) b e
    (λ l k. absurd (true≢false (sym k ∙ h.e_other)))
    (λ n l k. leaving_is t b e x s h line)
    (λ m n q l k. o m l (basic_m t b e w m n q ∙ k)
    ∙ ap (λ (r : Vector). total t.size (λ k. r k *ℚ x k)) (table_m t b e w m n q)
    ∙ kept_sum t b e (t.table m) x h (s.columns m b l h.b_within h.b_basic) line)
  where
    line : total t.size (λ k. turned_row t b e k *ℚ x k) ≡ x e
    line = sym (o e h.e_within (basic_e t b e w) ∙ ap (λ (r : Vector). total t.size (λ k. r k *ℚ x k)) (table_e t b e w))

-- the same costs
pub pivot_costs : (t : Tableau) (b e : ℕ) (w : Number) → IsSplit t → CanPivot t b e → (x : Vector) → Solves t x → total t.size (λ k. (pivoted t b e w).prices k *ℚ x k) ≡ total t.size (λ k. t.prices k *ℚ x k)
pivot_costs t b e w s h x o = kept_sum t b e t.prices x h (s.prices b h.b_within h.b_basic) (line_is t b e x s h o)
