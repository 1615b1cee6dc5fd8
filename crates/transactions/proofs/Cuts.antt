-- Transactions cut from one list.
use Rattle.std.proofs.Common.{◌≡◌, ℕ, zero, suc, ◌+◌, ◌-◌, ◌<◌, ◌≤◌, List, [], ◌∷◌, ◌++◌, length, take, drop, slice_get, slice_index_or, slice_set, slice_range, Some, None, option_map, refl, sym, ap, ap₂, ◌∙◌, subst, arith, length-append, length-drop}
use Rattle.transactions.specs.Transactions.{Transaction, EndsAscend, cut, end_last, start_at, with_read}
use Rattle.transactions.specs.declared.transactions.Heading.{Heading}
use Rattle.transactions.specs.declared.transactions.PartRead.{PartRead}

-- a front stays a front in front of more
drop_front : {X : Type 0} (k : ℕ) (xs ys : List X) → k ≤ length xs → drop k (xs ++ ys) ≡ drop k xs ++ ys
drop_front zero xs ys l = refl
drop_front (suc k) [] ys l = absurd (omega (arith, l))
drop_front (suc k) (x ∷ xs) ys l = drop_front k xs ys (omega (arith, l))

take_front : {X : Type 0} (k : ℕ) (xs ys : List X) → k ≤ length xs → take k (xs ++ ys) ≡ take k xs
take_front zero xs ys l = refl
take_front (suc k) [] ys l = absurd (omega (arith, l))
take_front (suc k) (x ∷ xs) ys l = ap (λ zs. x ∷ zs) (take_front k xs ys (omega (arith, l)))

take_whole : {X : Type 0} (xs : List X) (y : X) → take (suc (length xs)) (xs ++ y ∷ []) ≡ xs ++ y ∷ []
take_whole [] y = refl
take_whole (x ∷ xs) y = ap (λ zs. x ∷ zs) (take_whole xs y)

take_own : {X : Type 0} (xs : List X) → take (length xs) xs ≡ xs
take_own [] = refl
take_own (x ∷ xs) = ap (λ zs. x ∷ zs) (take_own xs)

-- a range stays behind more
range_front : {X : Type 0} (xs ys : List X) (from to : ℕ) → from ≤ to → to ≤ length xs → slice_range (xs ++ ys) from to ≡ slice_range xs from to
range_front xs ys from to l m =
    ap (take (to - from)) (drop_front from xs ys (omega (arith, l, m)))
    ∙ take_front (to - from) (drop from xs) ys (subst (λ n. to - from ≤ n) (sym (length-drop from xs)) (omega (arith, l, m)))

-- the last range, of one more
range_more : {X : Type 0} (xs : List X) (y : X) (from n : ℕ) → n ≡ length xs → from ≤ n → slice_range (xs ++ y ∷ []) from (suc n) ≡ slice_range xs from n ++ y ∷ []
range_more {X = X} xs y from n e l =
    let size : n - from ≡ length (drop from xs) = ap (λ k. k - from) e ∙ sym (length-drop from xs) in
    let more : suc n - from ≡ suc (length (drop from xs)) = subst (λ k. suc n - from ≡ suc k) size (omega (arith, l)) in
    (ap (λ (k : ℕ). take k (drop from (xs ++ y ∷ []))) more ∙ ap (take (suc (length (drop from xs)))) (drop_front from xs (y ∷ []) (subst (λ (k : ℕ). from ≤ k) e l)))
    ∙ take_whole (drop from xs) y
    ∙ ap (λ zs. zs ++ y ∷ []) (sym (ap (λ k. take k (drop from xs)) size ∙ take_own (drop from xs)))

range_none : {X : Type 0} (xs : List X) (n : ℕ) → slice_range xs n n ≡ []
range_none xs n = ap (λ k. take k (drop n xs)) none
  where
    none : n - n ≡ 0
    none = omega arith

pub length_cut : (from : ℕ) (hs : List Heading) (rs : List PartRead) → length (cut from hs rs) ≡ length hs
length_cut from [] rs = refl
length_cut from (h ∷ hs) rs = ap suc (length_cut h.end hs rs)

abbrev pub transaction_of : List PartRead → ℕ → Heading → Transaction
transaction_of rs from h = record { by = h.by; version = h.version; reads = slice_range rs from h.end }

got : (from : ℕ) (hs : List Heading) (rs : List PartRead) (k : ℕ) → slice_get (cut from hs rs) k ≡ option_map (transaction_of rs (start_at from hs k)) (slice_get hs k)
got from [] rs zero = refl
got from [] rs (suc k) = refl
got from (h ∷ hs) rs zero = refl
got from (h ∷ hs) rs (suc k) = got h.end hs rs k

past : (hs : List Heading) (k : ℕ) → length hs ≤ k → slice_get hs k ≡ None
past [] zero l = refl
past [] (suc k) l = refl
past (h ∷ hs) zero l = absurd (omega (arith, l))
past (h ∷ hs) (suc k) l = past hs k (omega (arith, l))

within : (hs : List Heading) (k : ℕ) (d : Heading) → k < length hs → slice_get hs k ≡ Some (slice_index_or hs k d)
within [] k d l = absurd (omega (arith, l))
within (h ∷ hs) zero d l = refl
within (h ∷ hs) (suc k) d l = within hs k d (omega (arith, l))

pub none_at : (hs gs : List Heading) (rs : List PartRead) (k : ℕ) → gs ≡ hs → length gs ≤ k → None ≡ slice_get (cut 0 hs rs) k
none_at hs gs rs k e l =
    sym (got 0 gs rs k ∙ ap (option_map (transaction_of rs (start_at 0 gs k))) (past gs k l)) ∙ ap (λ (fs : List Heading). slice_get (cut 0 fs rs) k) e

pub some_at : (hs gs : List Heading) (rs ps qs : List PartRead) (k from : ℕ) (d : Heading) → gs ≡ hs → k < length gs → from ≡ start_at 0 gs k → ps ≡ rs → qs ≡ slice_range ps from (slice_index_or gs k d).end
    → Some (record { by = (slice_index_or gs k d).by; version = (slice_index_or gs k d).version; reads = qs }) ≡ slice_get (cut 0 hs rs) k
some_at hs gs rs ps qs k from d e l f ep eq =
    ap (λ (xs : List PartRead). Some (record { by = (slice_index_or gs k d).by; version = (slice_index_or gs k d).version; reads = xs }))
    (eq ∙ ap (λ (xs : List PartRead). slice_range xs from (slice_index_or gs k d).end) ep ∙ ap (λ (n : ℕ). slice_range rs n (slice_index_or gs k d).end) f)
    ∙ sym (got 0 gs rs k ∙ ap (option_map (transaction_of rs (start_at 0 gs k))) (within gs k d l))
    ∙ ap (λ (fs : List Heading). slice_get (cut 0 fs rs) k) e

-- it begins where the one in front of it ends
start_index : (from : ℕ) (hs : List Heading) (k : ℕ) (d : Heading) → k < length hs → (slice_index_or hs k d).end ≡ start_at from hs (suc k)
start_index from [] k d l = absurd (omega (arith, l))
start_index from (h ∷ hs) zero d l = refl
start_index from (h ∷ hs) (suc k) d l = start_index h.end hs k d (omega (arith, l))

pub start_before : (hs : List Heading) (k : ℕ) (d : Heading) → 0 < k → k ≤ length hs → (slice_index_or hs (k - 1) d).end ≡ start_at 0 hs k
start_before hs zero d l m = absurd (omega (arith, l))
start_before hs (suc k) d l m = ap (λ (i : ℕ). (slice_index_or hs i d).end) less ∙ start_index 0 hs k d (omega (arith, m))
  where
    less : suc k - 1 ≡ k
    less = omega arith

-- no transaction ends before the one in front of it, nor past all that was read
ends_within : (from n : ℕ) (hs : List Heading) → EndsAscend from hs n → from ≤ n
ends_within from n [] a = subst (λ k. from ≤ k) a (omega arith)
ends_within from n (h ∷ hs) a = let more = ends_within h.end n hs a.1 in omega (arith, a.0, more)

starts_within : (from n : ℕ) (hs : List Heading) (k : ℕ) (h : Heading) → EndsAscend from hs n → slice_get hs k ≡ Some h → (start_at from hs k ≤ h.end) × (h.end ≤ n)
starts_within from n [] zero h a e = absurd (let f : None ≡ Some h = e in cc)
starts_within from n [] (suc k) h a e = absurd (let f : None ≡ Some h = e in cc)
starts_within from n (g ∷ hs) zero h a e =
    let same : g ≡ h = (let f : Some g ≡ Some h = e in cc) in
    subst (λ (i : Heading). (from ≤ i.end) × (i.end ≤ n)) same (a.0, ends_within g.end n hs a.1)
starts_within from n (g ∷ hs) (suc k) h a e = starts_within g.end n hs k h a.1 e

pub range_at : (hs gs : List Heading) (rs ps : List PartRead) (k from : ℕ) (d : Heading) → gs ≡ hs → k < length gs → from ≡ start_at 0 gs k → ps ≡ rs → EndsAscend 0 hs (length rs)
    → (from ≤ (slice_index_or gs k d).end) × ((slice_index_or gs k d).end ≤ length ps)
range_at hs gs rs ps k from d e l f ep a =
    let ends = starts_within 0 (length rs) gs k (slice_index_or gs k d) (subst (λ (fs : List Heading). EndsAscend 0 fs (length rs)) (sym e) a) (within gs k d l) in
    (subst (λ (n : ℕ). n ≤ (slice_index_or gs k d).end) (sym f) ends.0, subst (λ (xs : List PartRead). (slice_index_or gs k d).end ≤ length xs) (sym ep) ends.1)

-- one transaction more, which ends where all ends
pub opened : (from n : ℕ) (hs : List Heading) (rs : List PartRead) (h : Heading) → EndsAscend from hs n → h.end ≡ n
    → cut from (hs ++ h ∷ []) rs ≡ cut from hs rs ++ record { by = h.by; version = h.version; reads = [] } ∷ []
opened from n [] rs h a e =
    ap (λ (xs : List PartRead). record { by = h.by; version = h.version; reads = xs } ∷ []) (ap (slice_range rs from) (e ∙ sym a) ∙ range_none rs from)
opened from n (g ∷ hs) rs h a e = ap (λ ts. record { by = g.by; version = g.version; reads = slice_range rs from g.end } ∷ ts) (opened g.end n hs rs h a.1 e)

pub opened_ends : (from n : ℕ) (hs : List Heading) (h : Heading) → EndsAscend from hs n → h.end ≡ n → EndsAscend from (hs ++ h ∷ []) n
opened_ends from n [] h a e = (subst (λ k. from ≤ k) (a ∙ sym e) (omega arith), e)
opened_ends from n (g ∷ hs) h a e = (a.0, opened_ends g.end n hs h a.1 e)

-- the last one has read a part more
pub added : (from n : ℕ) (hs : List Heading) (rs : List PartRead) (r : PartRead) → n ≡ length rs → EndsAscend from hs n
    → cut from (end_last hs (suc n)) (rs ++ r ∷ []) ≡ with_read (cut from hs rs) r
added from n [] rs r e a = refl
added from n (h ∷ []) rs r e a =
    ap (λ (xs : List PartRead). record { by = h.by; version = h.version; reads = xs } ∷ [])
    (range_more rs r from n e (subst (λ k. from ≤ k) a.1 a.0) ∙ ap (λ k. slice_range rs from k ++ r ∷ []) (sym a.1))
added from n (h ∷ g ∷ hs) rs r e a =
    ap₂ (λ (xs : List PartRead) (ts : List Transaction). record { by = h.by; version = h.version; reads = xs } ∷ ts)
    (range_front rs (r ∷ []) from h.end a.0 (subst (λ k. h.end ≤ k) e (ends_within h.end n (g ∷ hs) a.1)))
    (added h.end n (g ∷ hs) rs r e a.1)

pub added_ends : (from n : ℕ) (hs : List Heading) → EndsAscend from hs n → 0 < length hs → EndsAscend from (end_last hs (suc n)) (suc n)
added_ends from n [] a l = absurd (omega (arith, l))
added_ends from n (h ∷ []) a l = (subst (λ k. from ≤ suc k) a.1 (omega (arith, a.0)), refl)
added_ends from n (h ∷ g ∷ hs) a l = (a.0, added_ends h.end n (g ∷ hs) a.1 (omega arith))

-- the last one of a list, set
last_set : (hs : List Heading) (d : Heading) (n : ℕ) → 0 < length hs
    → slice_set hs (length hs - 1) (record { by = (slice_index_or hs (length hs - 1) d).by; version = (slice_index_or hs (length hs - 1) d).version; end = n }) ≡ end_last hs n
last_set [] d n l = absurd (omega (arith, l))
last_set (h ∷ []) d n l = refl
last_set (h ∷ g ∷ hs) d n l =
    ap (λ (i : ℕ). slice_set (h ∷ g ∷ hs) i (record { by = (slice_index_or (h ∷ g ∷ hs) i d).by; version = (slice_index_or (h ∷ g ∷ hs) i d).version; end = n })) less
    ∙ ap (λ gs. h ∷ gs) (last_set (g ∷ hs) d n (omega arith))
  where
    less : length (h ∷ g ∷ hs) - 1 ≡ suc (length (g ∷ hs) - 1)
    less = omega arith

pub last_set_as : (hs gs : List Heading) (g d : Heading) (n : ℕ) → gs ≡ hs → 0 < length gs → g ≡ slice_index_or hs (length gs - 1) d
    → slice_set hs (length gs - 1) (record { by = g.by; version = g.version; end = n }) ≡ end_last hs n
last_set_as hs gs g d n e l v =
    ap₂ (λ (fs : List Heading) (f : Heading). slice_set hs (length fs - 1) (record { by = f.by; version = f.version; end = n })) e (v ∙ ap (λ (fs : List Heading). slice_index_or hs (length fs - 1) d) e)
    ∙ last_set hs d n (subst (λ (fs : List Heading). 0 < length fs) e l)

-- the same by parts of the code
counted : (n : ℕ) (rs qs ps : List PartRead) (r : PartRead) → n ≡ length ps → ps ≡ qs → qs ≡ rs ++ r ∷ [] → n ≡ suc (length rs)
counted n rs qs ps r en ep eq = en ∙ ap length (ep ∙ eq) ∙ length-append rs (r ∷ []) ∙ one
  where
    one : length rs + 1 ≡ suc (length rs)
    one = omega arith

pub added_all : (hs gs : List Heading) (rs qs ps : List PartRead) (r : PartRead) (n : ℕ) → gs ≡ end_last hs n → n ≡ length ps → ps ≡ qs → qs ≡ rs ++ r ∷ [] → EndsAscend 0 hs (length rs)
    → cut 0 gs qs ≡ with_read (cut 0 hs rs) r
added_all hs gs rs qs ps r n eg en ep eq a =
    ap₂ (cut 0) (eg ∙ ap (end_last hs) (counted n rs qs ps r en ep eq)) eq ∙ added 0 (length rs) hs rs r refl a

pub added_all_ends : (hs gs : List Heading) (rs qs ps : List PartRead) (r : PartRead) (n : ℕ) → gs ≡ end_last hs n → n ≡ length ps → ps ≡ qs → qs ≡ rs ++ r ∷ [] → EndsAscend 0 hs (length rs) → 0 < length hs
    → EndsAscend 0 gs (length qs)
added_all_ends hs gs rs qs ps r n eg en ep eq a l =
    let size = counted n rs qs ps r en ep eq in
    subst (λ (k : ℕ). EndsAscend 0 gs k) (sym size ∙ en ∙ ap length ep)
    (subst (λ (fs : List Heading). EndsAscend 0 fs (suc (length rs))) (sym (eg ∙ ap (end_last hs) size)) (added_ends 0 (length rs) hs a l))

-- one transaction more, with all that it read
drop_own : {X : Type 0} (xs : List X) → drop (length xs) xs ≡ []
drop_own [] = refl
drop_own (x ∷ xs) = drop_own xs

range_behind : {X : Type 0} (xs ys : List X) (from to : ℕ) → from ≡ length xs → to ≡ length xs + length ys → slice_range (xs ++ ys) from to ≡ ys
range_behind xs ys from to f e =
    ap₂ (λ (k n : ℕ). take k (drop n (xs ++ ys))) size f
    ∙ ap (take (length ys)) (drop_front (length xs) xs ys (omega arith) ∙ ap (λ zs. zs ++ ys) (drop_own xs))
    ∙ take_own ys
  where
    size : to - from ≡ length ys
    size = omega (arith, f, e)

appended : (from n : ℕ) (hs : List Heading) (rs qs : List PartRead) (h : Heading) → EndsAscend from hs n → n ≡ length rs → h.end ≡ length rs + length qs
    → cut from (hs ++ h ∷ []) (rs ++ qs) ≡ cut from hs rs ++ record { by = h.by; version = h.version; reads = qs } ∷ []
appended from n [] rs qs h a e f =
    ap (λ (xs : List PartRead). record { by = h.by; version = h.version; reads = xs } ∷ []) (range_behind rs qs from h.end (a ∙ e) f)
appended from n (g ∷ hs) rs qs h a e f =
    ap₂ (λ (xs : List PartRead) (ts : List Transaction). record { by = g.by; version = g.version; reads = xs } ∷ ts)
    (range_front rs qs from g.end a.0 (subst (λ k. g.end ≤ k) e (ends_within g.end n hs a.1)))
    (appended g.end n hs rs qs h a.1 e f)

appended_ends : (from n : ℕ) (hs : List Heading) (h : Heading) → EndsAscend from hs n → n ≤ h.end → EndsAscend from (hs ++ h ∷ []) h.end
appended_ends from n [] h a l = (subst (λ k. k ≤ h.end) (sym a) l, refl)
appended_ends from n (g ∷ hs) h a l = (a.0, appended_ends g.end n hs h a.1 l)

-- the first transactions, and what they read
front_long : {X : Type 0} (k : ℕ) (xs : List X) → k ≤ length xs → length (take k xs) ≡ k
front_long zero xs l = refl
front_long (suc k) [] l = absurd (omega (arith, l))
front_long (suc k) (x ∷ xs) l = ap suc (front_long k xs (omega (arith, l)))

front_and_rest : {X : Type 0} (k : ℕ) (xs : List X) → take k xs ++ drop k xs ≡ xs
front_and_rest zero xs = refl
front_and_rest (suc k) [] = refl
front_and_rest (suc k) (x ∷ xs) = ap (λ zs. x ∷ zs) (front_and_rest k xs)

range_kept : {X : Type 0} (k : ℕ) (xs : List X) (from to : ℕ) → k ≤ length xs → from ≤ to → to ≤ k → slice_range (take k xs) from to ≡ slice_range xs from to
range_kept k xs from to l m n =
    sym (range_front (take k xs) (drop k xs) from to m (subst (λ i. to ≤ i) (sym (front_long k xs l)) n))
    ∙ ap (λ ys. slice_range ys from to) (front_and_rest k xs)

starts_from : (from n : ℕ) (hs : List Heading) (k : ℕ) → EndsAscend from hs n → k ≤ length hs → (from ≤ start_at from hs k) × (start_at from hs k ≤ n)
starts_from from n hs zero a l = (omega arith, ends_within from n hs a)
starts_from from n [] (suc k) a l = absurd (omega (arith, l))
starts_from from n (h ∷ hs) (suc k) a l = let more = starts_from h.end n hs k a.1 (omega (arith, l)) in (omega (arith, a.0, more.0), more.1)

kept : (from n : ℕ) (hs : List Heading) (rs : List PartRead) (k s : ℕ) → EndsAscend from hs n → n ≡ length rs → k ≤ length hs → s ≡ start_at from hs k → cut from (take k hs) (take s rs) ≡ take k (cut from hs rs)
kept from n hs rs zero s a e l f = refl
kept from n [] rs (suc k) s a e l f = absurd (omega (arith, l))
kept from n (h ∷ hs) rs (suc k) s a e l f =
    let few : k ≤ length hs = omega (arith, l) in
    let ends = starts_from h.end n hs k a.1 few in
    ap₂ (λ (xs : List PartRead) (ts : List Transaction). record { by = h.by; version = h.version; reads = xs } ∷ ts)
    (range_kept s rs from h.end (subst (λ i. s ≤ i) e (subst (λ i. i ≤ n) (sym f) ends.1)) a.0 (subst (λ i. h.end ≤ i) (sym f) ends.0))
    (kept h.end n hs rs k s a.1 e few f)

kept_ends : (from n : ℕ) (hs : List Heading) (k : ℕ) → EndsAscend from hs n → k ≤ length hs → EndsAscend from (take k hs) (start_at from hs k)
kept_ends from n hs zero a l = refl
kept_ends from n [] (suc k) a l = absurd (omega (arith, l))
kept_ends from n (h ∷ hs) (suc k) a l = (a.0, kept_ends h.end n hs k a.1 (omega (arith, l)))

take_all : {X : Type 0} (k : ℕ) (xs : List X) → length xs ≤ k → xs ≡ take k xs
take_all zero [] l = refl
take_all zero (x ∷ xs) l = absurd (omega (arith, l))
take_all (suc k) [] l = refl
take_all (suc k) (x ∷ xs) l = ap (λ zs. x ∷ zs) (take_all k xs (omega (arith, l)))

-- the same by parts of the code
pub appended_all : (hs gs : List Heading) (rs qs ps us : List PartRead) (by version n : ℕ) → gs ≡ hs ++ record { by = by; version = version; end = n } ∷ [] → n ≡ length ps → ps ≡ us → us ≡ rs ++ qs → EndsAscend 0 hs (length rs)
    → cut 0 gs us ≡ cut 0 hs rs ++ record { by = by; version = version; reads = qs } ∷ []
appended_all hs gs rs qs ps us by version n eg en ep eu a =
    ap₂ (cut 0) eg eu
    ∙ appended 0 (length rs) hs rs qs (record { by = by; version = version; end = n }) a refl (en ∙ ap length (ep ∙ eu) ∙ length-append rs qs)

pub appended_all_ends : (hs gs : List Heading) (rs qs ps us : List PartRead) (by version n : ℕ) → gs ≡ hs ++ record { by = by; version = version; end = n } ∷ [] → n ≡ length ps → ps ≡ us → us ≡ rs ++ qs → EndsAscend 0 hs (length rs)
    → EndsAscend 0 gs (length us)
appended_all_ends hs gs rs qs ps us by version n eg en ep eu a =
    let size : length rs + length qs ≡ n = sym (en ∙ ap length (ep ∙ eu) ∙ length-append rs qs) in
    subst (λ (k : ℕ). EndsAscend 0 gs k) (en ∙ ap length ep)
    (subst (λ (fs : List Heading). EndsAscend 0 fs n) (sym eg) (appended_ends 0 (length rs) hs (record { by = by; version = version; end = n }) a (omega (arith, size))))

pub kept_all : (hs gs fs : List Heading) (rs qs : List PartRead) (k s : ℕ) → gs ≡ take k hs → qs ≡ take s rs → s ≡ start_at 0 fs k → fs ≡ hs → EndsAscend 0 hs (length rs) → k ≤ length fs
    → cut 0 gs qs ≡ take k (cut 0 hs rs)
kept_all hs gs fs rs qs k s eg eq es ef a l =
    ap₂ (cut 0) eg eq ∙ kept 0 (length rs) hs rs k s a refl (subst (λ (is : List Heading). k ≤ length is) ef l) (es ∙ ap (λ (is : List Heading). start_at 0 is k) ef)

pub kept_all_ends : (hs gs fs : List Heading) (rs qs : List PartRead) (k s : ℕ) → gs ≡ take k hs → qs ≡ take s rs → s ≡ start_at 0 fs k → fs ≡ hs → EndsAscend 0 hs (length rs) → k ≤ length fs
    → EndsAscend 0 gs (length qs)
kept_all_ends hs gs fs rs qs k s eg eq es ef a l =
    let few : k ≤ length hs = subst (λ (is : List Heading). k ≤ length is) ef l in
    let start : s ≡ start_at 0 hs k = es ∙ ap (λ (is : List Heading). start_at 0 is k) ef in
    let within : s ≤ length rs = subst (λ i. i ≤ length rs) (sym start) (starts_from 0 (length rs) hs k a few).1 in
    subst (λ (n : ℕ). EndsAscend 0 gs n) (sym start ∙ sym (front_long s rs within) ∙ sym (ap length eq))
    (subst (λ (is : List Heading). EndsAscend 0 is (start_at 0 hs k)) (sym eg) (kept_ends 0 (length rs) hs k a few))

pub all_kept : (k : ℕ) (hs fs : List Heading) (rs : List PartRead) → fs ≡ hs → length fs ≤ k → cut 0 hs rs ≡ take k (cut 0 hs rs)
all_kept k hs fs rs e l = take_all k (cut 0 hs rs) (subst (λ n. n ≤ k) (ap length e ∙ sym (length_cut 0 hs rs)) l)
