-- Lists of pairs are read as they are written.
use Rattle.std.proofs.Common.{◌≡◌, ℕ, suc, ◌+◌, ◌-◌, ◌^◌, ◌<◌, ◌≤◌, Bool, true, false, ◌||◌, nat_eq, eqb, ltb, List, [], ◌∷◌, length, map, Option, Some, None, refl, sym, ap, ap₂, ◌∙◌, arith}
use Rattle.std.specs.Fmt.{decimal}
use Rattle.std.specs.List.{AllByRecursion, list_any}
use Rattle.std.specs.Str.{bytes_eq}
use Rattle.std.proofs.lemmas.Bool.{and_from, lt-ltb, eqb-true, false_from_ne_true}
use Rattle.std.proofs.lemmas.Bool.Decides.{nat_tests}
use Rattle.std.proofs.lemmas.Slice.Eq.{bytes_eq-Decides}
use Rattle.std.proofs.lemmas.List.Elements.{All-head, All-tail}
use Rattle.fractions.specs.Number.{Number}
use Rattle.fractions.specs.Lowest.{Fits}
use Rattle.lp_model.specs.declared.terms.Term.{Term}
use Rattle.lp_model.specs.Sparse.{Ascends, has}
use Rattle.number_texts.specs.Form.{number}
use Rattle.record_file.specs.Words.{ratio_word, pair_words, list_words}
use Rattle.record_fields.specs.Words.{comes_after, same_id}
use Rattle.record_fields.specs.Faults.{unless, lower}
use Rattle.record_fields.specs.Lists.{pairs_of, pairs_fault, has_count, list_fault, term_of, list_of, is_listed}
use Rattle.record_fields.specs.declared.faults.LineFault.{LineFault}
use Rattle.record_fields.specs.declared.faults.LineFault.TheVariants.{BadLine}
use Rattle.record_round_trip.specs.Ranges.{IsId, ListFits}
use Rattle.record_round_trip.proofs.Numerals.{plain_decimal, number_decimal, id_again, id_passes, number_again, entry_passes}
use Rattle.record_round_trip.proofs.Words.{Whole, decimal_whole, ratio_whole}

-- two parts without a fault
pub both : (f g : Option LineFault) → f ≡ None → g ≡ None → lower f g ≡ None
both f g e h = rw (e, h) refl

pub holds : (b : Bool) (fault : LineFault) → b ≡ true → unless b fault ≡ None
holds b fault e = rw e refl

-- the id before, if any, is below
abbrev IsBehind : Option ℕ → ℕ → Type 0
IsBehind None least = Unit {0}
IsBehind (Some k) least = (suc k ≤ least) × IsId k

abbrev before_word : Option ℕ → Option (List ℕ)
before_word None = None
before_word (Some k) = Some (decimal k)

behind : (before : Option ℕ) (least i : ℕ) → IsBehind before least → least ≤ i → IsId i → comes_after (before_word before) (decimal i) ≡ true
behind None least i b l h = refl
behind (Some k) least i b l h =
    ap₂ (λ (m n : ℕ). ltb m n) (number_decimal k (omega (arith, b.1))) (number_decimal i (omega arith)) ∙ lt-ltb k i (omega (arith, b.0))

abbrev word_pairs : List Term → List (List ℕ × List ℕ)
word_pairs ts = map (λ t. (decimal t.id, ratio_word t.value)) ts

pairs_are : (ts : List Term) → pairs_of (pair_words ts) ≡ word_pairs ts
pairs_are [] = refl
pairs_are (t ∷ ts) = ap (λ (ps : List (List ℕ × List ℕ)). (decimal t.id, ratio_word t.value) ∷ ps) (pairs_are ts)

pairs_pass : (n least : ℕ) (before : Option ℕ) (ts : List Term) → IsBehind before least → Ascends least n ts → ListFits ts → pairs_fault (before_word before) (word_pairs ts) ≡ None
pairs_pass n least before [] b a f = refl
pairs_pass n least before (t ∷ ts) b a f =
    let here = All-head (λ (t : Term). IsId t.id × Fits t.value) t ts f in
    both _ _
    (both _ _ (both _ _ (id_passes t.id here.0) (entry_passes t.value here.1 a.2)) (holds _ BadLine (behind before least t.id b a.0 here.0)))
    (pairs_pass n (suc t.id) (Some t.id) ts (omega arith, here.0) a.3 (All-tail (λ (t : Term). IsId t.id × Fits t.value) t ts f))

words_counted : (ts : List Term) → length (pair_words ts) ≡ length ts + length ts
words_counted [] = refl
words_counted (t ∷ ts) = let e = words_counted ts in omega arith

terms_again : (ts : List Term) → ListFits ts → map term_of (word_pairs ts) ≡ ts
terms_again [] f = refl
terms_again (t ∷ ts) f =
    let here = All-head (λ (t : Term). IsId t.id × Fits t.value) t ts f in
    ap₂ (λ (u : Term) (us : List Term). u ∷ us)
    (ap₂ (λ (i : ℕ) (v : Number). record { id = i; value = v }) (id_again t.id here.0) (number_again t.value here.1))
    (terms_again ts (All-tail (λ (t : Term). IsId t.id × Fits t.value) t ts f))

-- ids that ascend are few
ids_few : (n least : ℕ) (ts : List Term) → Ascends least n ts → ListFits ts → length ts ≤ 2 ^ 32 - least
ids_few n least [] a f = omega arith
ids_few n least (t ∷ ts) a f =
    let here = All-head (λ (t : Term). IsId t.id × Fits t.value) t ts f in
    omega (arith, a.0, here.0, ids_few n (suc t.id) ts a.3 (All-tail (λ (t : Term). IsId t.id × Fits t.value) t ts f))

pub list_short : (n : ℕ) (ts : List Term) → Ascends 0 n ts → ListFits ts → length ts < 2 ^ 64
list_short n ts a f = omega (arith, ids_few n 0 ts a f)

counted : (ts : List Term) → length ts < 2 ^ 64 → has_count (decimal (length ts)) (pair_words ts) ≡ true
counted ts l =
    let e : eqb (length ts + length ts) (length ts + length ts) ≡ true = grind (arith, nat_tests) in
    and_from _ _ (plain_decimal (length ts) (omega arith))
    (ap₂ (λ (x y : ℕ). eqb (x + x) y) (number_decimal (length ts) (omega arith)) (words_counted ts) ∙ e)

pub list_passes : (n : ℕ) (ts : List Term) → Ascends 0 n ts → ListFits ts → list_fault (list_words ts) ≡ None
list_passes n ts a f =
    both _ _ (holds _ BadLine (counted ts (list_short n ts a f)))
    (ap (pairs_fault None) (pairs_are ts) ∙ pairs_pass n 0 None ts tt a f)

pub list_again : (ts : List Term) → ListFits ts → list_of (list_words ts) ≡ ts
list_again ts f = ap (map term_of) (pairs_are ts) ∙ terms_again ts f

-- ids are the same where their words are
pub same_word : (i j : ℕ) → IsId i → IsId j → same_id (decimal i) (decimal j) ≡ nat_eq i j
same_word i j h k = by (eqb i j) refl
  where
    by : (b : Bool) → eqb i j ≡ b → bytes_eq (decimal i) (decimal j) ≡ b
    by true e = (bytes_eq-Decides (decimal i) (decimal j)).1 (ap decimal (eqb-true i j e))
    by false e = false_from_ne_true _ (λ t.
        let s : i ≡ j = sym (number_decimal i (omega (arith, h))) ∙ ap number ((bytes_eq-Decides (decimal i) (decimal j)).0 t) ∙ number_decimal j (omega (arith, k)) in
        let r : eqb i j ≡ true = grind (arith, nat_tests) in
        absurd (let w : true ≡ false = sym r ∙ e in cc))

listed_in : (i : ℕ) (ts : List Term) → IsId i → ListFits ts → list_any (λ pair. same_id pair.0 (decimal i)) (word_pairs ts) ≡ has i ts
listed_in i [] h f = refl
listed_in i (t ∷ ts) h f =
    let here = All-head (λ (t : Term). IsId t.id × Fits t.value) t ts f in
    ap₂ (λ (a b : Bool). a || b) (same_word t.id i here.0 h) (listed_in i ts h (All-tail (λ (t : Term). IsId t.id × Fits t.value) t ts f))

pub listed : (i : ℕ) (ts : List Term) → IsId i → ListFits ts → is_listed (decimal i) (list_words ts) ≡ has i ts
listed i ts h f = ap (list_any (λ (pair : List ℕ × List ℕ). same_id pair.0 (decimal i))) (pairs_are ts) ∙ listed_in i ts h f

pub pairs_whole : (ts : List Term) → ListFits ts → AllByRecursion Whole (pair_words ts)
pairs_whole [] f = tt
pairs_whole (t ∷ ts) f =
    let here = All-head (λ (t : Term). IsId t.id × Fits t.value) t ts f in
    (decimal_whole t.id (omega (arith, here.0)), (ratio_whole t.value here.1, pairs_whole ts (All-tail (λ (t : Term). IsId t.id × Fits t.value) t ts f)))

pub list_whole : (n : ℕ) (ts : List Term) → Ascends 0 n ts → ListFits ts → AllByRecursion Whole (list_words ts)
list_whole n ts a f = (decimal_whole (length ts) (omega (arith, list_short n ts a f)), pairs_whole ts f)
