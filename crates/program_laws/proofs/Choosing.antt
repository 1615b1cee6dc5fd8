-- What stands at the live lines.
use Rattle.std.proofs.Common.{◌≡◌, ◌≢◌, ℕ, zero, suc, ◌+◌, ◌<◌, Bool, true, false, List, [], ◌∷◌, length, map, get_or, slice_index, sym, refl, ap, ◌∙◌, arith}
use Rattle.std.specs.Prelude.{if◌then◌else◌}
use Rattle.std.specs.List.{All}
use Rattle.std.proofs.lemmas.List.Elements.{All-nil, All-cons, All-head, All-tail}
use Rattle.lp_model.specs.Names.{Differ}
use Rattle.lp_model.proofs.Differing.{differ_cons, differ_head, differ_tail}
use Rattle.problem_model.specs.declared.line.Line.{Line}
use Rattle.problem_model.specs.Matrices.{line_at}
use Rattle.problem_model.specs.Programs.{live_ids_from, live_ids}
use Rattle.program_laws.specs.Chosen.{at_live, names_at}
use Rattle.program_laws.proofs.Ranks.{id_if, none_before, shift}

-- an item more, if its line is live
abbrev pub item_if : {A : Type 0} → Bool → A → List A → List A
item_if b x xs = if b then x ∷ xs else xs

module _ {A : Type 0} where
  pub chosen-by : (f : ℕ → A) (d : A) (k : ℕ) (ls : List Line) (xs : List A) → length xs ≡ length ls → ((i : ℕ) → i < length xs → get_or xs i d ≡ f (k + i))
      → (a : ℕ) → a < length (live_ids_from k ls) → get_or (at_live ls xs) a d ≡ f (slice_index (live_ids_from k ls) a)
  chosen-by f d k [] xs e h a l = absurd (omega (arith, l))
  chosen-by f d k (y ∷ ls) [] e h a l = absurd (omega (arith, e))
  chosen-by f d k (y ∷ ls) (x ∷ xs) e h a l = by y.live a l (chosen-by f d (k + 1) ls xs (omega (arith, e)) (λ i m. h (suc i) (omega (arith, m)) ∙ ap f (sym (shift k i))))
    where
      by : (b : Bool) (c : ℕ) → c < length (id_if b k (live_ids_from (k + 1) ls))
          → ((g : ℕ) → g < length (live_ids_from (k + 1) ls) → get_or (at_live ls xs) g d ≡ f (slice_index (live_ids_from (k + 1) ls) g))
          → get_or (item_if b x (at_live ls xs)) c d ≡ f (slice_index (id_if b k (live_ids_from (k + 1) ls)) c)
      by true zero m rest = let z : k + 0 ≡ k = omega arith in h 0 (omega arith) ∙ ap f z
      by true (suc c) m rest = rest c (omega (arith, m))
      by false c m rest = rest c m

  -- item a is that at the id of live line a
  pub chosen-at : (ls : List Line) (xs : List A) (d : A) → length xs ≡ length ls → (a : ℕ) → a < length (live_ids ls) → get_or (at_live ls xs) a d ≡ get_or xs (slice_index (live_ids ls) a) d
  chosen-at ls xs d e a l = chosen-by (λ i. get_or xs i d) d 0 ls xs e (λ i m. ap (λ (n : ℕ). get_or xs n d) (sym (none_before i))) a l

  pub chosen-length : (k : ℕ) (ls : List Line) (xs : List A) → length xs ≡ length ls → length (at_live ls xs) ≡ length (live_ids_from k ls)
  chosen-length k [] xs e = refl
  chosen-length k (y ∷ ls) [] e = absurd (omega (arith, e))
  chosen-length k (y ∷ ls) (x ∷ xs) e = by y.live (chosen-length (k + 1) ls xs (omega (arith, e)))
    where
      by : (b : Bool) → length (at_live ls xs) ≡ length (live_ids_from (k + 1) ls) → length (item_if b x (at_live ls xs)) ≡ length (id_if b k (live_ids_from (k + 1) ls))
      by true ih = ap suc ih
      by false ih = ih

  -- what holds at the live lines
  pub chosen-all : (P : A → Type 0) (d : A) (ls : List Line) (xs : List A) → length xs ≡ length ls → ((i : ℕ) → i < length xs → (line_at ls i).live ≡ true → P (get_or xs i d)) → All P (at_live ls xs)
  chosen-all P d [] xs e h = All-nil P
  chosen-all P d (y ∷ ls) [] e h = All-nil P
  chosen-all P d (y ∷ ls) (x ∷ xs) e h = by y.live refl (chosen-all P d ls xs (omega (arith, e)) (λ i l g. h (suc i) (omega (arith, l)) g))
    where
      by : (b : Bool) → y.live ≡ b → All P (at_live ls xs) → All P (item_if b x (at_live ls xs))
      by true g ih = All-cons P x (at_live ls xs) (h 0 (omega arith) g) ih
      by false g ih = ih

pub chosen-map : {A B : Type 0} (f : A → B) (ls : List Line) (xs : List A) → map f (at_live ls xs) ≡ at_live ls (map f xs)
chosen-map f [] xs = refl
chosen-map f (y ∷ ls) [] = refl
chosen-map f (y ∷ ls) (x ∷ xs) = by y.live (chosen-map f ls xs)
  where
    by : (b : Bool) → map f (at_live ls xs) ≡ at_live ls (map f xs) → map f (item_if b x (at_live ls xs)) ≡ item_if b (f x) (at_live ls (map f xs))
    by true ih = ap (λ ys. f x ∷ ys) ih
    by false ih = ih

-- ---- names
pub all_names : (P : List ℕ → Type 0) (lines : List Line) (names : List (List ℕ)) → All P names → All P (at_live lines names)
all_names P [] names h = All-nil P
all_names P (y ∷ lines) [] h = All-nil P
all_names P (y ∷ lines) (n ∷ ns) h = by y.live (all_names P lines ns (All-tail P n ns h))
  where
    by : (b : Bool) → All P (at_live lines ns) → All P (item_if b n (at_live lines ns))
    by true ih = All-cons P n (at_live lines ns) (All-head P n ns h) ih
    by false ih = ih

pub names_differ : (lines : List Line) (names : List (List ℕ)) → Differ names → Differ (names_at names lines)
names_differ [] names h = λ i j d l m. absurd (omega arith)
names_differ (y ∷ lines) [] h = λ i j d l m. absurd (omega arith)
names_differ (y ∷ lines) (n ∷ ns) h = by y.live (names_differ lines ns (differ_tail n ns h))
  where
    by : (b : Bool) → Differ (at_live lines ns) → Differ (item_if b n (at_live lines ns))
    by true ih = differ_cons n (at_live lines ns) (all_names (λ other. n ≢ other) lines ns (differ_head n ns h)) ih
    by false ih = ih

-- the same beside a name that is none of them
pub names_differ_from : (first : List ℕ) (lines : List Line) (names : List (List ℕ)) → Differ (first ∷ names) → Differ (first ∷ names_at names lines)
names_differ_from first lines names h = differ_cons first (names_at names lines) (all_names (λ other. first ≢ other) lines names (differ_head first names h)) (names_differ lines names (differ_tail first names h))
