-- What is found in shares is what is enabled in the pieces.
use Rattle.std.proofs.Common.{◌≡◌, ◌⊎◌, inl, inr, ◌≤◌, ◌<◌, ℕ, zero, suc, ◌+◌, ◌*◌, ◌/◌, ◌%◌, List, [], ◌∷◌, ◌++◌, length, take, get_or, slice_get, Some, Result, Ok, Err, refl, sym, ap, ap₂, append-nil, subst, ◌∙◌, arith}
use Rattle.std.specs.Prelude.{IfOk}
use Rattle.std.specs.List.{AllZip, flat_map, range_with_len}
use Rattle.std.specs.declared.vec.Vec.{Vec}
use Rattle.std.proofs.lemmas.List.{length-append, take_more}
use Rattle.std.proofs.lemmas.Option.{none-some, same_Some}
use Rattle.problem_model.specs.Sparse.{Sparse}
use Rattle.presolve_model.specs.declared.instance.Instance.{Instance}
use Rattle.presolve_model.specs.declared.instance.Rule.TheVariants.{EmptyRow}
use Rattle.presolve_model.specs.Tallies.{Open}
use Rattle.threaded_passes.specs.Pieces.{enabled_in, PieceData}
use Rattle.threaded_passes.specs.Shares.{AreInTurn, IsListAt, IsShare, IsShareOrLost}
use Rattle.threaded_passes.proofs.InOrder.{flat_append}

-- as many are made as there are
pub as_many : {X Y : Type 0} (R : X → Y → Type 0) (xs : List X) (ys : List Y) → AllZip R xs ys → length ys ≡ length xs
as_many R [] [] h = refl
as_many R [] (y ∷ ys) h = absurd h
as_many R (x ∷ xs) [] h = absurd h
as_many R (x ∷ xs) (y ∷ ys) h = ap suc (as_many R xs ys h.1)

-- the numbers from a on, one more
pub range_more : (a n : ℕ) → range_with_len a (suc n) ≡ range_with_len a n ++ (a + n) ∷ []
range_more a zero =
    let e : a ≡ a + 0 = omega arith in
    ap (λ k. k ∷ []) e
range_more a (suc n) =
    let e : a + 1 + n ≡ a + suc n = omega arith in
    ap (λ l. a ∷ l) (range_more (a + 1) n ∙ ap (λ k. range_with_len (a + 1) n ++ k ∷ []) e)

pub range_grown : (n : ℕ) (xs ys : List ℕ) → xs ≡ range_with_len 0 n → ys ≡ xs ++ n ∷ [] → ys ≡ range_with_len 0 (n + 1)
range_grown n xs ys before pushed =
    let e : 0 + n ≡ n = omega arith in
    let f : suc n ≡ n + 1 = omega arith in
    pushed ∙ ap (λ l. l ++ n ∷ []) before ∙ ap (λ k. range_with_len 0 n ++ k ∷ []) (sym e) ∙ sym (range_more 0 n) ∙ ap (range_with_len 0) f

-- a list and one element more
seam : {V : Type 0} (xs : List V) (v : V) (q : ℕ) → q < length (xs ++ v ∷ [])
    → ((q < length xs) × (slice_get (xs ++ v ∷ []) q ≡ slice_get xs q)) ⊎ ((q ≡ length xs) × (slice_get (xs ++ v ∷ []) q ≡ Some v))
seam [] v zero lt = inr (refl, refl)
seam [] v (suc q) lt = absurd (omega (arith, lt))
seam (x ∷ xs) v zero lt = inl (omega arith, refl)
seam (x ∷ xs) v (suc q) lt = elim (seam xs v q (omega (arith, lt))) [
  | inl h ↦ inl (omega (arith, h.0), h.1)
  | inr h ↦ inr (ap suc h.0, h.1)
]

-- ---- a share, one list after the other
module _ {Z : Type 0} (opens : Open) (p : Sparse) (pieces : List PieceData) (step first : ℕ) where
  -- the lists so far
  abbrev pub AreFound : List (Vec Instance Z) → Type 0
  AreFound lists = (q : ℕ) (d : PieceData) → q < length lists → first + q * step < length pieces
      → (found : Vec Instance Z) × (slice_get lists q ≡ Some found) × (found.items ≡ enabled_in opens p (get_or pieces (first + q * step) d))

  pub found_more : (lists more : List (Vec Instance Z)) (place : ℕ) (piece : PieceData) (found : Vec Instance Z) → place ≡ first + length lists * step → ((d : PieceData) → piece ≡ get_or pieces place d)
      → found.items ≡ enabled_in opens p piece → more ≡ lists ++ found ∷ [] → AreFound lists → AreFound more
  found_more lists more place piece found at is items pushed before = λ q d lt there. elim (seam lists found q (subst (λ l. q < length l) pushed lt)) [
    | inl h ↦
        let old = before q d h.0 there in
        (old.0, ap (λ l. slice_get l q) pushed ∙ h.1 ∙ old.1, old.2)
    | inr h ↦
        let same : place ≡ first + q * step = at ∙ ap (λ k. first + k * step) (sym h.0) in
        (found, ap (λ l. slice_get l q) pushed ∙ h.1, items ∙ ap (enabled_in opens p) (is d) ∙ ap (λ k. enabled_in opens p (get_or pieces k d)) same)
  ]

  pub place_more : (lists more : List (Vec Instance Z)) (place : ℕ) (found : Vec Instance Z) → place ≡ first + length lists * step → more ≡ lists ++ found ∷ [] → place + step ≡ first + length more * step
  place_more lists more place found at pushed =
      let e : length more ≡ length lists + 1 = ap length pushed ∙ length-append lists (found ∷ []) in
      ap (λ k. k + step) at ∙ next (length lists) ∙ ap (λ k. first + k * step) (sym e)
    where
      next : (n : ℕ) → first + n * step + step ≡ first + (n + 1) * step
      next n = omega arith

  -- all of them
  pub share_whole : (lists : List (Vec Instance Z)) (place : ℕ) → 0 < step → place ≡ first + length lists * step → length pieces ≤ place → AreFound lists → IsShare opens p pieces step first lists
  share_whole lists place some at past found = λ q d there. found q d (few q (length lists) (subst (λ k. first + q * step < k) at (omega (arith, there, past)))) there
    where
      few : (q n : ℕ) → first + q * step < first + n * step → q < n
      few q n lt = below q n (omega (arith, lt))
        where
          below : (q n : ℕ) → q * step < n * step → q < n
          below q zero h = absurd (omega (arith, h))
          below zero (suc n) h = omega arith
          below (suc q) (suc n) h = omega (arith, below q n (omega (arith, h)))

-- stands for a piece past the last
no_piece : PieceData
no_piece = record { rule = EmptyRow; ids = [] }

-- a place is its remainder and so many steps
in_steps : (n step : ℕ) → 0 < step → 0 + n % step + n / step * step ≡ n
in_steps n step some = omega (arith, some)

module _ {Y Z E : Type 0} (opens : Open) (p : Sparse) (pieces : List PieceData) (step : ℕ) where
  -- the share at a place
  share_at : (a n : ℕ) (lists : List (Result (Vec (Vec Instance Z) Y) E)) (s : ℕ) (share : Vec (Vec Instance Z) Y) → AllZip (IsShareOrLost opens p pieces step) (range_with_len a n) lists
      → slice_get lists s ≡ Some (Ok share) → IsShare opens p pieces step (a + s) share.items
  share_at a zero [] s share h e = absurd (none-some _ e)
  share_at a zero (l ∷ lists) s share h e = absurd h
  share_at a (suc n) [] s share h e = absurd h
  share_at a (suc n) (l ∷ lists) zero share h e =
      let is : a ≡ a + 0 = omega arith in
      subst (λ k. IsShare opens p pieces step k share.items) is (subst (IsShareOrLost opens p pieces step a) (same_Some l (Ok share) e) h.0)
  share_at a (suc n) (l ∷ lists) (suc s) share h e =
      let is : a + 1 + s ≡ a + suc s = omega arith in
      subst (λ k. IsShare opens p pieces step k share.items) is (share_at (a + 1) n lists s share h.1 e)

  module _ (lists : List (Result (Vec (Vec Instance Z) Y) E)) (some : 0 < step) (all_there : length lists ≡ step) (zip : AllZip (IsShareOrLost opens p pieces step) (range_with_len 0 step) lists) where
    -- the list of a piece is what is enabled in it
    list_found : (n : ℕ) (list : List Instance) → n < length pieces → IsListAt lists n list → list ≡ enabled_in opens p (get_or pieces n no_piece)
    list_found n list lt at =
        let there : slice_get lists (n % step) ≡ Some (Ok at.share) = subst (λ k. slice_get lists (n % k) ≡ Some (Ok at.share)) all_there at.there in
        let has : slice_get at.share.items (n / step) ≡ Some at.found = subst (λ k. slice_get at.share.items (n / k) ≡ Some at.found) all_there at.has in
        let placed : 0 + n % step + n / step * step ≡ n = in_steps n step some in
        let h = share_at 0 step lists (n % step) at.share zip there (n / step) no_piece (subst (λ k. k < length pieces) (sym placed) lt) in
        at.same ∙ ap (λ (v : Vec Instance Z). v.items) (same_Some at.found h.0 (sym has ∙ h.1)) ∙ h.2 ∙ ap (λ k. enabled_in opens p (get_or pieces k no_piece)) placed

    in_turn : (n : ℕ) (all : List Instance) → n ≤ length pieces → AreInTurn lists n all → all ≡ flat_map (enabled_in opens p) (take n pieces)
    in_turn zero all le is = is
    in_turn (suc n) all le (before, list, front, at, is) =
        let lt : n < length pieces = omega (arith, le) in
        let more : n + 1 ≡ suc n = omega arith in
        is ∙ ap₂ (λ (l r : List Instance). l ++ r) (in_turn n before (omega (arith, le)) front) (list_found n list lt at ∙ sym (append-nil (enabled_in opens p (get_or pieces n no_piece))))
        ∙ sym (flat_append (enabled_in opens p) (take n pieces) (get_or pieces n no_piece ∷ []))
        ∙ ap (flat_map (enabled_in opens p)) (sym (take_more pieces n no_piece lt))
        ∙ ap (λ k. flat_map (enabled_in opens p) (take k pieces)) more

-- what was found, where it could be put together, is what is enabled in the pieces
pub joined_found : {Y Z E F : Type 0} (opens : Open) (p : Sparse) (pieces : List PieceData) (step count : ℕ) (firsts : List ℕ) (lists given : List (Result (Vec (Vec Instance Z) Y) E)) (all : Result (Vec Instance Z) F)
    (enabled : List Instance) → 0 < step → firsts ≡ range_with_len 0 step → AllZip (IsShareOrLost opens p pieces step) firsts lists → given ≡ lists → count ≡ length pieces
    → IfOk all (λ v. AreInTurn given count v.items) → flat_map (enabled_in opens p) pieces ≡ enabled → IfOk all (λ v. v.items ≡ enabled)
joined_found {Y} {Z} {E} opens p pieces step count firsts lists given (Ok v) enabled some all_firsts zip same counted turns is =
    let here = subst (λ fs. AllZip (IsShareOrLost opens p pieces step) fs lists) all_firsts zip in
    let many : length lists ≡ step = as_many _ (range_with_len 0 step) lists here ∙ length-range 0 step in
    let turn = subst (λ k. AreInTurn lists k v.items) counted (subst (λ (ls : List (Result (Vec (Vec Instance Z) Y) E)). AreInTurn ls count v.items) same turns) in
    in_turn opens p pieces step lists some many here (length pieces) v.items (omega arith) turn ∙ ap (flat_map (enabled_in opens p)) (take_whole pieces) ∙ is
  where
    take_whole : (xs : List PieceData) → take (length xs) xs ≡ xs
    take_whole [] = refl
    take_whole (x ∷ xs) = ap (λ l. x ∷ l) (take_whole xs)

    length-range : (a n : ℕ) → length (range_with_len a n) ≡ n
    length-range a zero = refl
    length-range a (suc n) = ap suc (length-range (a + 1) n)
joined_found opens p pieces step count firsts lists given (Err e) enabled some all_firsts zip same counted turns is = tt
