-- A proof of any identity of commutative rings by computing: both sides come to one normal form.
use Rattle.std.proofs.Common.{◌≡◌, ℕ, zero, suc, ℤ, pos, negsuc, ◌+ℤ◌, ◌*ℤ◌, neg_ℤ, sym, refl, ap, ap₂, ◌∙◌, Bool, true, false, ◌&&◌, T, eqb, leb, ltb, eqb→eq, List, [], ◌∷◌}
use Rattle.std.proofs.Math.IntN as Z
use Rattle.fractions.specs.WholeLaws as W

pub record Ring : Type 1 where
  pub R : Type 0
  pub add : R → R → R
  pub mul : R → R → R
  pub neg : R → R
  pub of : ℤ → R
  pub add_comm : (a b : R) → add a b ≡ add b a
  pub add_assoc : (a b c : R) → add (add a b) c ≡ add a (add b c)
  pub zero_add : (a : R) → add (of (pos 0)) a ≡ a
  pub mul_comm : (a b : R) → mul a b ≡ mul b a
  pub mul_assoc : (a b c : R) → mul (mul a b) c ≡ mul a (mul b c)
  pub one_mul : (a : R) → mul (of (pos 1)) a ≡ a
  pub zero_mul : (a : R) → mul (of (pos 0)) a ≡ of (pos 0)
  pub mul_add : (a b c : R) → mul a (add b c) ≡ add (mul a b) (mul a c)
  pub neg_is : (a : R) → neg a ≡ mul (of (negsuc 0)) a
  pub of_add : (a b : ℤ) → of (a +ℤ b) ≡ add (of a) (of b)
  pub of_mul : (a b : ℤ) → of (a *ℤ b) ≡ mul (of a) (of b)

-- an expression over variables by their numbers
infixl 6 ◌:+◌ ◌:-◌
infixl 7 ◌:*◌
pub data Expr : Type 0 where
  v : ℕ → Expr
  num : ℤ → Expr
  ◌:+◌ : Expr → Expr → Expr
  ◌:-◌ : Expr → Expr → Expr
  ◌:*◌ : Expr → Expr → Expr
  inv : Expr → Expr

-- ---- normal forms: sums of a whole number times a product of variables, in order
pub record Term : Type 0 where
  pub by : ℤ
  pub of : List ℕ

abbrev same : List ℕ → List ℕ → Bool
same [] [] = true
same [] (j ∷ n) = false
same (i ∷ m) [] = false
same (i ∷ m) (j ∷ n) = eqb i j && same m n

abbrev before : List ℕ → List ℕ → Bool
before [] [] = false
before [] (j ∷ n) = true
before (i ∷ m) [] = false
before (i ∷ m) (j ∷ n) = elim (ltb i j) [ true ↦ true | false ↦ eqb i j && before m n ]

abbrev is_zero : ℤ → Bool
is_zero (pos n) = eqb n 0
is_zero (negsuc n) = false

abbrev put : ℕ → List ℕ → List ℕ
put i [] = i ∷ []
put i (j ∷ m) = elim (leb i j) [ true ↦ i ∷ j ∷ m | false ↦ j ∷ put i m ]

abbrev join : List ℕ → List ℕ → List ℕ
join [] n = n
join (i ∷ m) n = put i (join m n)

abbrev push : ℤ → List ℕ → List Term → List Term
push c m p = elim (is_zero c) [ true ↦ p | false ↦ record { by = c; of = m } ∷ p ]

abbrev insert : ℤ → List ℕ → List Term → List Term
insert c m [] = push c m []
insert c m (t ∷ p) =
    elim (same m t.of) [ true ↦ push (c +ℤ t.by) m p | false ↦ elim (before m t.of) [ true ↦ push c m (t ∷ p) | false ↦ t ∷ insert c m p ] ]

abbrev plus : List Term → List Term → List Term
plus [] q = q
plus (t ∷ p) q = insert t.by t.of (plus p q)

abbrev scale : ℤ → List ℕ → List Term → List Term
scale c m [] = []
scale c m (t ∷ p) = insert (c *ℤ t.by) (join m t.of) (scale c m p)

abbrev times : List Term → List Term → List Term
times [] q = []
times (t ∷ p) q = plus (scale t.by t.of q) (times p q)

abbrev pub norm : Expr → List Term
norm (v i) = record { by = pos 1; of = i ∷ [] } ∷ []
norm (num z) = push z [] []
norm (a :+ b) = plus (norm a) (norm b)
norm (a :- b) = plus (norm a) (scale (negsuc 0) [] (norm b))
norm (a :* b) = times (norm a) (norm b)
norm (inv a) = scale (negsuc 0) [] (norm a)

same-eq : (m n : List ℕ) → T (same m n) → m ≡ n
same-eq [] [] h = refl
same-eq [] (j ∷ n) h = absurd h
same-eq (i ∷ m) [] h = absurd h
same-eq (i ∷ m) (j ∷ n) h = ap₂ ◌∷◌ (eqb→eq i j (left (eqb i j) (same m n) h)) (same-eq m n (right (eqb i j) (same m n) h))
  where
    left : (a b : Bool) → T (a && b) → T a
    left true b h = tt
    left false b h = h

    right : (a b : Bool) → T (a && b) → T b
    right true b h = h
    right false b h = absurd h

zero-is : (c : ℤ) → T (is_zero c) → c ≡ pos 0
zero-is (pos n) h = ap pos (eqb→eq n 0 h)
zero-is (negsuc n) h = absurd h

module _ (r : Ring) where
  open r use {add, mul, of}

  abbrev pub at : List r.R → ℕ → r.R
  at [] i = of (pos 0)
  at (x ∷ xs) zero = x
  at (x ∷ xs) (suc i) = at xs i

  module _ (xs : List r.R) where
    abbrev pub value : Expr → r.R
    value (v i) = at xs i
    value (num z) = of z
    value (a :+ b) = add (value a) (value b)
    value (a :- b) = add (value a) (r.neg (value b))
    value (a :* b) = mul (value a) (value b)
    value (inv a) = r.neg (value a)

    abbrev mono : List ℕ → r.R
    mono [] = of (pos 1)
    mono (i ∷ m) = mul (at xs i) (mono m)

    abbrev poly : List Term → r.R
    poly [] = of (pos 0)
    poly (t ∷ p) = add (mul (of t.by) (mono t.of)) (poly p)

    add_left : (a b c : r.R) → add a (add b c) ≡ add b (add a c)
    add_left a b c = sym (r.add_assoc a b c) ∙ ap (λ x. add x c) (r.add_comm a b) ∙ r.add_assoc b a c

    mul_left : (a b c : r.R) → mul a (mul b c) ≡ mul b (mul a c)
    mul_left a b c = sym (r.mul_assoc a b c) ∙ ap (λ x. mul x c) (r.mul_comm a b) ∙ r.mul_assoc b a c

    add_mul : (a b c : r.R) → mul (add a b) c ≡ add (mul a c) (mul b c)
    add_mul a b c = r.mul_comm (add a b) c ∙ r.mul_add c a b ∙ ap₂ add (r.mul_comm c a) (r.mul_comm c b)

    put-is : (i : ℕ) (m : List ℕ) → mono (put i m) ≡ mul (at xs i) (mono m)
    put-is i [] = refl
    put-is i (j ∷ m) =
        elim (leb i j) as (λ b. mono (elim b [ true ↦ i ∷ j ∷ m | false ↦ j ∷ put i m ]) ≡ mul (at xs i) (mul (at xs j) (mono m)))
        [ true ↦ refl | false ↦ ap (mul (at xs j)) (put-is i m) ∙ mul_left (at xs j) (at xs i) (mono m) ]

    join-is : (m n : List ℕ) → mono (join m n) ≡ mul (mono m) (mono n)
    join-is [] n = sym (r.one_mul (mono n))
    join-is (i ∷ m) n = put-is i (join m n) ∙ ap (mul (at xs i)) (join-is m n) ∙ sym (r.mul_assoc (at xs i) (mono m) (mono n))

    push-is : (c : ℤ) (m : List ℕ) (p : List Term) → poly (push c m p) ≡ add (mul (of c) (mono m)) (poly p)
    push-is c m p = by (is_zero c) (zero-is c)
      where
        by : (b : Bool) → (T b → c ≡ pos 0) → poly (elim b [ true ↦ p | false ↦ record { by = c; of = m } ∷ p ]) ≡ add (mul (of c) (mono m)) (poly p)
        by true h = sym (ap (λ z. add (mul (of z) (mono m)) (poly p)) (h tt) ∙ ap (λ x. add x (poly p)) (r.zero_mul (mono m)) ∙ r.zero_add (poly p))
        by false h = refl

    insert-is : (c : ℤ) (m : List ℕ) (p : List Term) → poly (insert c m p) ≡ add (mul (of c) (mono m)) (poly p)
    insert-is c m [] = push-is c m []
    insert-is c m (t ∷ p) = by (same m t.of) (before m t.of) (same-eq m t.of) (insert-is c m p)
      where
        by : (b d : Bool) → (T b → m ≡ t.of) → poly (insert c m p) ≡ add (mul (of c) (mono m)) (poly p) → poly (elim b [ true ↦ push (c +ℤ t.by) m p | false ↦ elim d [ true ↦ push c m (t ∷ p) | false ↦ t ∷ insert c m p ] ]) ≡ add (mul (of c) (mono m)) (add (mul (of t.by) (mono t.of)) (poly p))
        by true d h ih =
            push-is (c +ℤ t.by) m p
            ∙ ap (λ x. add (mul x (mono m)) (poly p)) (r.of_add c t.by)
            ∙ ap (λ x. add x (poly p)) (add_mul (of c) (of t.by) (mono m))
            ∙ r.add_assoc (mul (of c) (mono m)) (mul (of t.by) (mono m)) (poly p)
            ∙ ap (λ n. add (mul (of c) (mono m)) (add (mul (of t.by) (mono n)) (poly p))) (h tt)
        by false true h ih = push-is c m (t ∷ p)
        by false false h ih = ap (add (mul (of t.by) (mono t.of))) ih ∙ add_left (mul (of t.by) (mono t.of)) (mul (of c) (mono m)) (poly p)

    plus-is : (p q : List Term) → poly (plus p q) ≡ add (poly p) (poly q)
    plus-is [] q = sym (r.zero_add (poly q))
    plus-is (t ∷ p) q =
        insert-is t.by t.of (plus p q) ∙ ap (add (mul (of t.by) (mono t.of))) (plus-is p q) ∙ sym (r.add_assoc (mul (of t.by) (mono t.of)) (poly p) (poly q))

    scale-is : (c : ℤ) (m : List ℕ) (p : List Term) → poly (scale c m p) ≡ mul (mul (of c) (mono m)) (poly p)
    scale-is c m [] = sym (r.mul_comm (mul (of c) (mono m)) (of (pos 0)) ∙ r.zero_mul (mul (of c) (mono m)))
    scale-is c m (t ∷ p) =
        insert-is (c *ℤ t.by) (join m t.of) (scale c m p)
        ∙ ap₂ add
        (ap₂ mul (r.of_mul c t.by) (join-is m t.of)
        ∙ r.mul_assoc (of c) (of t.by) (mul (mono m) (mono t.of))
        ∙ ap (mul (of c)) (mul_left (of t.by) (mono m) (mono t.of))
        ∙ sym (r.mul_assoc (of c) (mono m) (mul (of t.by) (mono t.of))))
        (scale-is c m p)
        ∙ sym (r.mul_add (mul (of c) (mono m)) (mul (of t.by) (mono t.of)) (poly p))

    times-is : (p q : List Term) → poly (times p q) ≡ mul (poly p) (poly q)
    times-is [] q = sym (r.zero_mul (poly q))
    times-is (t ∷ p) q =
        plus-is (scale t.by t.of q) (times p q)
        ∙ ap₂ add (scale-is t.by t.of q) (times-is p q)
        ∙ sym (add_mul (mul (of t.by) (mono t.of)) (poly p) (poly q))

    minus_one : (p : List Term) → poly (scale (negsuc 0) [] p) ≡ r.neg (poly p)
    minus_one p =
        scale-is (negsuc 0) [] p
        ∙ ap (λ x. mul x (poly p)) (r.mul_comm (of (negsuc 0)) (of (pos 1)) ∙ r.one_mul (of (negsuc 0)))
        ∙ sym (r.neg_is (poly p))

    add_zero : (a : r.R) → add a (of (pos 0)) ≡ a
    add_zero a = r.add_comm a (of (pos 0)) ∙ r.zero_add a

    norm-is : (e : Expr) → poly (norm e) ≡ value e
    norm-is (v i) =
        add_zero (mul (of (pos 1)) (mul (at xs i) (of (pos 1))))
        ∙ r.one_mul (mul (at xs i) (of (pos 1)))
        ∙ r.mul_comm (at xs i) (of (pos 1))
        ∙ r.one_mul (at xs i)
    norm-is (num z) = push-is z [] [] ∙ add_zero (mul (of z) (of (pos 1))) ∙ r.mul_comm (of z) (of (pos 1)) ∙ r.one_mul (of z)
    norm-is (a :+ b) = plus-is (norm a) (norm b) ∙ ap₂ add (norm-is a) (norm-is b)
    norm-is (a :- b) = plus-is (norm a) (scale (negsuc 0) [] (norm b)) ∙ ap₂ add (norm-is a) (minus_one (norm b) ∙ ap r.neg (norm-is b))
    norm-is (a :* b) = times-is (norm a) (norm b) ∙ ap₂ mul (norm-is a) (norm-is b)
    norm-is (inv a) = minus_one (norm a) ∙ ap r.neg (norm-is a)

    -- the two sides are equal where their normal forms are the same
    pub ring : (a b : Expr) → norm a ≡ norm b → value a ≡ value b
    ring a b e = sym (norm-is a) ∙ ap poly e ∙ norm-is b

abbrev pub whole : Ring
whole = record {
  R = ℤ;
  add = ◌+ℤ◌;
  mul = ◌*ℤ◌;
  neg = neg_ℤ;
  of = λ z. z;
  add_comm = Z.+ℤ_comm;
  add_assoc = Z.+ℤ_assoc;
  zero_add = Z.+ℤ_idl;
  mul_comm = Z.*ℤ_comm;
  mul_assoc = W.*ℤ_assoc;
  one_mul = W.one-*ℤ;
  zero_mul = Z.zero-*ℤ;
  mul_add = W.*ℤ-+ℤ;
  neg_is = W.neg-is-*;
  of_add = λ a b. refl;
  of_mul = λ a b. refl;
}
