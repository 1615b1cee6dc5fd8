-- Ids cut into chunks: each chunk holds what it has to, and what is left comes behind it.
use Rattle.std.proofs.Common.{◌≡◌, ◌⊎◌, inl, inr, ℕ, zero, suc, ◌+◌, ◌*◌, ◌<◌, ◌≤◌, Bool, true, false, List, [], ◌∷◌, ◌++◌, length, get_or, take, drop, refl, sym, ap, ◌∙◌, subst, arith}
use Rattle.std.specs.List.{All, Contains}
use Rattle.std.proofs.lemmas.List.Elements.{All-append, All-cons, All-nil, Contains-append_cases, Contains-append_left, Contains-append_right}
use Rattle.sorted_ids.specs.Ascending.{AscendsFrom}
use Rattle.presolve_model.specs.declared.instance.Rule.{Rule}
use Rattle.presolve_model.specs.Tallies.{open_on}
use Rattle.presolve_model.specs.Worlds.{Version}
use Rattle.place_laws.proofs.Places.{from_is}
use Rattle.worker_tasks.specs.Tasks.{HoldsChunk, TaskData}
use Rattle.round_tasks.specs.Cutting.{AddsTasks, HasEachOf, IsCountBelow, IsGivenOut}

-- ---- ids in two parts
halves : {X : Type 0} (k : ℕ) (xs : List X) → take k xs ++ drop k xs ≡ xs
halves zero xs = refl
halves (suc k) [] = refl
halves (suc k) (x ∷ xs) = ap (λ ys. x ∷ ys) (halves k xs)

split_in : (n : ℕ) (xs : List ℕ) (k : ℕ) → Contains xs k → Contains (take n xs) k ⊎ Contains (drop n xs) k
split_in n xs k c = Contains-append_cases (take n xs) (drop n xs) k (subst (λ (ys : List ℕ). Contains ys k) (sym (halves n xs)) c)

ascends_take : (a n : ℕ) (xs : List ℕ) → AscendsFrom a xs → AscendsFrom a (take n xs)
ascends_take a zero xs h = tt
ascends_take a (suc n) [] h = tt
ascends_take a (suc n) (x ∷ xs) h = (h.0, ascends_take (x + 1) n xs h.1)

ascends_drop : (a b n : ℕ) (xs : List ℕ) → AscendsFrom a xs → (n < length xs → b ≤ get_or xs n 0) → AscendsFrom b (drop n xs)
ascends_drop a b zero [] h l = tt
ascends_drop a b zero (x ∷ xs) h l = (l (omega arith), h.1)
ascends_drop a b (suc n) [] h l = tt
ascends_drop a b (suc n) (x ∷ xs) h l = ascends_drop (x + 1) b n xs h.1 (λ m. l (omega (arith, m)))

-- from where they ascend, and from their first one
ascends_least : (a k : ℕ) (xs : List ℕ) → AscendsFrom a xs → Contains xs k → a ≤ k
ascends_least a k [] h c = absurd (omega (arith, c.1))
ascends_least a k (x ∷ xs) h (zero, l, e) = omega (arith, h.0, e)
ascends_least a k (x ∷ xs) h (suc i, l, e) = let r = ascends_least (x + 1) k xs h.1 (i, omega (arith, l), e) in omega (arith, h.0, r)

ascends_first : (a b : ℕ) (xs : List ℕ) → AscendsFrom a xs → b ≤ get_or xs 0 0 → AscendsFrom b xs
ascends_first a b [] h l = tt
ascends_first a b (x ∷ xs) h l = (l, h.1)

first_in : (xs : List ℕ) → 0 < length xs → Contains xs (get_or xs 0 0)
first_in [] l = absurd (omega (arith, l))
first_in (x ∷ xs) l = (zero, omega arith, refl)

below_in : (n end : ℕ) (xs : List ℕ) → ((k : ℕ) → k < n → get_or xs k 0 < end) → (k : ℕ) → Contains (take n xs) k → k < end
below_in zero end xs h k c = absurd (omega (arith, c.1))
below_in (suc n) end [] h k c = absurd (omega (arith, c.1))
below_in (suc n) end (x ∷ xs) h k (zero, l, e) = let b = h 0 (omega arith) in omega (arith, b, e)
below_in (suc n) end (x ∷ xs) h k (suc i, l, e) = below_in n end xs (λ j m. h (suc j) (omega (arith, m))) k (i, omega (arith, l), e)

-- ---- how far the ids of a rule are cut
-- what is left ascends from the end of a chunk, and all before that end is passed; where none was left out each id is left or given out
pub record IsCut (v : Version) (r : Rule) (ids rest : List ℕ) (before after : List TaskData) (whole : Bool) : Type 0 where
  pub left : (m : ℕ) × AscendsFrom (m * 1024) rest × ((k : ℕ) → Contains ids k → Contains rest k ⊎ (k < m * 1024))
  pub hold : All (HoldsChunk v) before → All (HoldsChunk v) after
  pub kept : (s : Rule) (k : ℕ) → IsGivenOut before s k → IsGivenOut after s k
  pub given : whole ≡ true → (k : ℕ) → Contains ids k → Contains rest k ⊎ IsGivenOut after r k

pub cut_none : (v : Version) (r : Rule) (ids : List ℕ) (ts : List TaskData) → AscendsFrom 0 ids → IsCut v r ids ids ts ts true
cut_none v r ids ts h = record { left = (0, h, λ k c. inl c); hold = λ x. x; kept = λ s k x. x; given = λ e k c. inl c }

pub cut_all : (v : Version) (r : Rule) (ids rest : List ℕ) (before after : List TaskData) (whole : Bool) → IsCut v r ids rest before after whole → length rest ≡ 0 → AddsTasks v r ids before after whole
cut_all v r ids rest before after whole h none = record { hold = h.hold; kept = h.kept; given = λ e k c. by k (h.given e k c) }
  where
    by : (k : ℕ) → Contains rest k ⊎ IsGivenOut after r k → IsGivenOut after r k
    by k (inl c) = absurd (omega (arith, none, c.1))
    by k (inr g) = g

given_more : (ts : List TaskData) (t : TaskData) (s : Rule) (k : ℕ) → IsGivenOut ts s k → IsGivenOut (ts ++ t ∷ []) s k
given_more ts t s k g = record { task = g.task; among = Contains-append_left ts (t ∷ []) g.task g.among; rule = g.rule; first = g.first; last = g.last }

-- ---- one chunk more
module _ (v : Version) (r : Rule) (ids rest : List ℕ) (before after : List TaskData) (whole : Bool) (cut : IsCut v r ids rest before after whole) (c n : ℕ) (each : HasEachOf v r ids) (some : 0 < length rest)
    (first : c * 1024 ≤ get_or rest 0 0) (inside : get_or rest 0 0 < c * 1024 + 1024) (count : IsCountBelow rest ((c + 1) * 1024) n) where
  pub some_taken : 0 < n
  some_taken = by n count.next
    where
      by : (k : ℕ) → (k < length rest → (c + 1) * 1024 ≤ get_or rest k 0) → 0 < k
      by zero h = absurd (let g = h some in omega (arith, g, inside))
      by (suc k) h = omega arith

  abbrev m : ℕ
  m = cut.left.0

  lowest : m * 1024 ≤ get_or rest 0 0
  lowest = ascends_least (m * 1024) (get_or rest 0 0) rest cut.left.1 (first_in rest some)

  behind : AscendsFrom ((c + 1) * 1024) (drop n rest)
  behind = ascends_drop (m * 1024) ((c + 1) * 1024) n rest cut.left.1 count.next

  front : (k : ℕ) → Contains (take n rest) k → (c * 1024 ≤ k) × (k < c * 1024 + 1024)
  front k i =
      let least = ascends_least (c * 1024) k (take n rest) (ascends_take (c * 1024) n rest (ascends_first (m * 1024) (c * 1024) rest cut.left.1 first)) i in
      let most = below_in n ((c + 1) * 1024) rest count.below k i in
      (least, omega (arith, most))

  held : HoldsChunk v (record { rule = r; chunk = c; ids = take n rest })
  held = record {
    ascends = ascends_take (c * 1024) n rest (ascends_first (m * 1024) (c * 1024) rest cut.left.1 first);
    within = λ k i. (front k i).1;
    complete = λ k e l u among on.
        let is = from_is (open_on v.tally) v.problem r k e among in
        there k l u (cut.left.2 k (subst (λ (j : ℕ). Contains ids j) is.1 (each e on is.2 is.0)));
  }
    where
      in_front : (k : ℕ) → k < c * 1024 + 1024 → Contains (take n rest) k ⊎ Contains (drop n rest) k → Contains (take n rest) k
      in_front k u (inl i) = i
      in_front k u (inr i) = absurd (let l = ascends_least ((c + 1) * 1024) k (drop n rest) behind i in omega (arith, l, u))

      there : (k : ℕ) → c * 1024 ≤ k → k < c * 1024 + 1024 → Contains rest k ⊎ (k < m * 1024) → Contains (take n rest) k
      there k l u (inl i) = in_front k u (split_in n rest k i)
      there k l u (inr low) = absurd (omega (arith, l, low, lowest, inside))

  left_then : (k : ℕ) → Contains ids k → Contains (drop n rest) k ⊎ (k < (c + 1) * 1024)
  left_then k i = by (cut.left.2 k i)
    where
      halved : Contains (take n rest) k ⊎ Contains (drop n rest) k → Contains (drop n rest) k ⊎ (k < (c + 1) * 1024)
      halved (inl j) = let u = (front k j).1 in inr (omega (arith, u))
      halved (inr j) = inl j

      by : Contains rest k ⊎ (k < m * 1024) → Contains (drop n rest) k ⊎ (k < (c + 1) * 1024)
      by (inl j) = halved (split_in n rest k j)
      by (inr low) = inr (omega (arith, low, lowest, inside))

  -- it is a task
  pub cut_more : (ns bs : List ℕ) (ts : List TaskData) → ns ≡ take n rest → bs ≡ drop n rest → ts ≡ after ++ record { rule = r; chunk = c; ids = ns } ∷ [] → IsCut v r ids bs before ts whole
  cut_more ns bs ts en eb et = subst (λ (us : List TaskData). IsCut v r ids bs before us whole) (sym (et ∙ ap (λ (xs : List ℕ). after ++ record { rule = r; chunk = c; ids = xs } ∷ []) en))
      (subst (λ (xs : List ℕ). IsCut v r ids xs before (after ++ task ∷ []) whole) (sym eb) more)
    where
      task : TaskData
      task = record { rule = r; chunk = c; ids = take n rest }

      there : (k : ℕ) → Contains (take n rest) k → IsGivenOut (after ++ task ∷ []) r k
      there k i = record { task = task; among = Contains-append_right after (task ∷ []) task (zero, omega arith, refl); rule = refl; first = (front k i).0; last = (front k i).1 }

      given : whole ≡ true → (k : ℕ) → Contains ids k → Contains (drop n rest) k ⊎ IsGivenOut (after ++ task ∷ []) r k
      given e k i = by (cut.given e k i)
        where
          halved : Contains (take n rest) k ⊎ Contains (drop n rest) k → Contains (drop n rest) k ⊎ IsGivenOut (after ++ task ∷ []) r k
          halved (inl j) = inr (there k j)
          halved (inr j) = inl j

          by : Contains rest k ⊎ IsGivenOut after r k → Contains (drop n rest) k ⊎ IsGivenOut (after ++ task ∷ []) r k
          by (inl j) = halved (split_in n rest k j)
          by (inr g) = inr (given_more after task r k g)

      more : IsCut v r ids (drop n rest) before (after ++ task ∷ []) whole
      more = record {
        left = (c + 1, behind, left_then);
        hold = λ h. All-append (HoldsChunk v) after (task ∷ []) (cut.hold h) (All-cons (HoldsChunk v) task [] held (All-nil (HoldsChunk v)));
        kept = λ s k g. given_more after task s k (cut.kept s k g);
        given = given;
      }

  -- it is left out
  pub cut_out : (bs : List ℕ) → bs ≡ drop n rest → IsCut v r ids bs before after false
  cut_out bs eb = subst (λ (xs : List ℕ). IsCut v r ids xs before after false) (sym eb)
      (record { left = (c + 1, behind, left_then); hold = cut.hold; kept = cut.kept; given = λ e. absurd (let f = e in cc) })
