-- Places among names are places among the keys that hold them.
use Rattle.std.proofs.Common.{◌≡◌, ◌<◌, ℕ, zero, suc, ◌+◌, ◌-◌, not, true≢false, slice_index_or, List, [], ◌∷◌, ◌++◌, Bool, true, false, cond, Some, None, subst, nat_lt, refl, sym, ap, ap₂, ◌∙◌, arith, map, length}
use Rattle.std.proofs.lemmas.List.{length-map, length-append, map-append}
use Rattle.std.specs.Prelude.{Vec, position, if◌then◌else◌}
use Rattle.std.specs.List.{AllByRecursion, IsDistinct, list_any, prefix_len}
use Rattle.std.specs.Str.{bytes_eq}
use Rattle.std.proofs.lemmas.Bool.Decides.{nat_tests}
use Rattle.std.proofs.lemmas.Slice.Eq.{bytes_eq-Decides}
use Rattle.names.specs.Names.{AreDifferent, place}

abbrev pub bytes_of : {Z : Type 0} → Vec ℕ Z → List ℕ
bytes_of key = key.items

prefix_len_now : {Z : Type 0} (p : List ℕ → Bool) (keys : List (Vec ℕ Z)) → prefix_len p (map bytes_of keys) ≡ prefix_len (λ (k : Vec ℕ Z). p (bytes_of k)) keys
prefix_len_now p [] = refl
prefix_len_now p (k ∷ keys) = ap (λ n. cond (p (bytes_of k)) (1 + n) 0) (prefix_len_now p keys)

pub place_keys : {Z : Type 0} (name : List ℕ) (keys : List (Vec ℕ Z)) → place name (map bytes_of keys) ≡ position (λ (k : Vec ℕ Z). bytes_eq name (bytes_of k)) keys
place_keys name keys = ap₂ (λ (n m : ℕ). cond (nat_lt n m) (Some n) None) (prefix_len_now _ keys) (length-map keys bytes_of)

last : {Z : Type 0} (b : Bool) (old new : List (Vec ℕ Z)) (key : Vec ℕ Z) → false ≡ b → new ≡ (if b then old else old ++ key ∷ [])
    → map bytes_of new ≡ map bytes_of old ++ key.items ∷ []
last true old new key never is = cc
last false old new key never is = ap (map bytes_of) is ∙ map-append bytes_of old (key ∷ [])

-- a key with the bytes of a name that no other has goes last
pub taken_last : {Z : Type 0} (old new : List (Vec ℕ Z)) (key : Vec ℕ Z) (name : List ℕ) → key.items ≡ name
    → false ≡ list_any (λ (k : Vec ℕ Z). bytes_eq name (bytes_of k)) old
    → new ≡ (if list_any (λ (k : Vec ℕ Z). bytes_eq key.items (bytes_of k)) old then old else old ++ key ∷ [])
    → map bytes_of new ≡ map bytes_of old ++ name ∷ []
taken_last old new key name same never is =
    last _ old new key (never ∙ ap (λ (b : List ℕ). list_any (λ (k : Vec ℕ _). bytes_eq b (bytes_of k)) old) (sym same)) is
    ∙ ap (λ (b : List ℕ). map bytes_of old ++ b ∷ []) same

-- a name that goes last has the number of the names before it
pub last_within : (old new : List (List ℕ)) (name : List ℕ) (id : ℕ) → id ≡ length old → new ≡ old ++ name ∷ [] → id < length new
last_within old new name id here is = let long : length new ≡ length old + 1 = ap length is ∙ length-append old (name ∷ []) in omega (arith, here, long)

-- ---- names that differ
all_items : {Z : Type 0} (name : List ℕ) (keys : List (Vec ℕ Z)) → AllByRecursion (λ (k : Vec ℕ Z). bytes_eq name (bytes_of k) ≡ false) keys → AllByRecursion (λ b. bytes_eq name b ≡ false) (map bytes_of keys)
all_items name [] a = tt
all_items name (k ∷ keys) a = (a.0, all_items name keys a.1)

pub items_differ : {Z : Type 0} (keys : List (Vec ℕ Z)) → IsDistinct (λ (a b : Vec ℕ Z). bytes_eq (bytes_of a) (bytes_of b)) keys → AreDifferent (map bytes_of keys)
unfolding IsDistinct
items_differ [] d = tt
items_differ (k ∷ keys) d = (all_items (bytes_of k) keys d.0, items_differ keys d.1)

-- the last of names that differ is at no place before
is_itself : (name : List ℕ) → bytes_eq name name ≡ true
is_itself name = (bytes_eq-Decides name name).1 refl

turned_round : (a b : List ℕ) → bytes_eq a b ≡ false → bytes_eq b a ≡ false
turned_round a b e = by (bytes_eq b a) refl
  where
    by : (c : Bool) → bytes_eq b a ≡ c → c ≡ false
    by false f = refl
    by true f = absurd (true≢false (sym ((bytes_eq-Decides a b).1 (sym ((bytes_eq-Decides b a).0 f))) ∙ e))

one_of : (P : List ℕ → Type 0) (names : List (List ℕ)) (k : ℕ) → AllByRecursion P names → k < length names → P (slice_index_or names k [])
one_of P [] k a l = absurd (omega (arith, l))
one_of P (x ∷ names) zero a l = a.0
one_of P (x ∷ names) (suc k) a l = one_of P names k a.1 (omega (arith, l))

before_last : (x : List ℕ) (names : List (List ℕ)) (name : List ℕ) → AreDifferent (x ∷ names) → slice_index_or (x ∷ names) (length names) [] ≡ name → prefix_len (λ y. not (bytes_eq name y)) (x ∷ names) ≡ length names
unfolding IsDistinct
before_last x [] name d e = ap (λ (b : Bool). cond (not b) 1 0) (ap (bytes_eq name) e ∙ is_itself name)
before_last x (y ∷ names) name d e =
    let more : 1 + length names ≡ suc (length names) = omega arith in
    let other : bytes_eq x name ≡ false = subst (λ b. bytes_eq x b ≡ false) e (one_of (λ b. bytes_eq x b ≡ false) (y ∷ names) (length names) d.0 (omega arith)) in
    ap (λ (b : Bool). cond (not b) (1 + prefix_len (λ z. not (bytes_eq name z)) (y ∷ names)) 0) (turned_round x name other)
    ∙ ap (λ n. 1 + n) (before_last y names name d.1 e) ∙ more

pub last_place : (names : List (List ℕ)) (name : List ℕ) → AreDifferent names → 0 < length names → slice_index_or names (length names - 1) [] ≡ name → place name names ≡ Some (length names - 1)
last_place [] name d l e = absurd (omega (arith, l))
last_place (x ∷ names) name d l e =
    let one : length (x ∷ names) - 1 ≡ length names = omega arith in
    ap (λ n. cond (nat_lt n (length (x ∷ names))) (Some n) None) (before_last x names name d (ap (λ n. slice_index_or (x ∷ names) n []) (sym one) ∙ e))
    ∙ ap (λ (b : Bool). cond b (Some (length names)) None) (below (length names))
    ∙ ap Some (sym one)
  where
    below : (n : ℕ) → nat_lt n (suc n) ≡ true
    below n = grind (arith, nat_tests)
