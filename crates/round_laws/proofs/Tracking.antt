-- What is enabled reads a part that is noted, or comes to its turn.
use Rattle.std.proofs.Common.{ℕ, ◌≡◌, ◌⊎◌, inl, inr, suc, ◌<◌, Bool, true, false, true≢false, List, [], ◌∷◌, ◌++◌, length, map, None, sym, refl, ap₂, ◌∙◌, subst, append_assoc, arith}
use Rattle.std.specs.List.{Contains}
use Rattle.fractions.specs.declared.Numbers.{Numbers}
use Rattle.problem_model.specs.declared.part.Part.{Part}
use Rattle.problem_model.specs.declared.part.Read.{Read}
use Rattle.problem_model.specs.Noted.{AreNoted}
use Rattle.problem_model.specs.Parts.{changes_of}
use Rattle.problem_model.specs.Reading.{read_of}
use Rattle.problem_model.specs.Sparse.{Sparse}
use Rattle.presolve_model.specs.declared.instance.Instance.{Instance}
use Rattle.presolve_model.specs.Enabled.{enabled_on, reads}
use Rattle.presolve_model.specs.Ledger.{Ledger}
use Rattle.presolve_model.specs.Ordered.{Committed}
use Rattle.presolve_model.proofs.Readings.{enabled_same, parts_same, reading_same}
use Rattle.place_laws.specs.Choosing.{proposals}
use Rattle.place_laws.specs.Marks.{AreStirred, Grows, LetsNoMore, IsMarked, IsNoted, Marks, parts_for, RestsOnReading}
use Rattle.dual_laws.specs.declared.form.Form.{Form}
use Rattle.dual_laws.specs.Forms.{EachLets, Lets, LetsByCost, LetsInPairs, seen_at}
use Rattle.presolve_model.specs.declared.instance.Reach.TheVariants.{OwnRow, OwnColumn, RowsOfBounds, ColumnsOfSides, RowsOfBoth, SoleColumns, RowsBeside, ColumnsBeside}
use Rattle.presolve_model.specs.declared.instance.Reach.{Reach}
use Rattle.presolve_model.specs.Instances.{goes_by_form, is_open, lets_by, reach_of, rule_at}
use Rattle.presolve_model.specs.Tallies.{Open, open_on}
use Rattle.presolve_model.proofs.Forms.{enabled_by_form, parts_by_form}
use Rattle.round_laws.specs.Passing.{Follows, IsTracked, Passed, Tracks}
use Rattle.round_laws.proofs.Committing.{committed_append, proposals_append}
use Rattle.place_laws.proofs.ShortLists.{first_or_behind}

module _ (n : Marks) (e : Instance) (es : List Instance) (b : Ledger) (t : Tracks n (e ∷ es) b) where
  -- the first one is passed over: it is not enabled
  pub tracks_over : (enabled_on b.problem e ≡ true → ⊥) → Tracks n es b
  tracks_over h none room x on free = by (t none room x on free)
    where
      first : (e ≡ x) ⊎ Contains es x → IsTracked n es b x
      first (inl same) = absurd (h (subst (λ (y : Instance). enabled_on b.problem y ≡ true) (sym same) on))
      first (inr among) = inr among

      by : IsTracked n (e ∷ es) b x → IsTracked n es b x
      by (inl k) = inl k
      by (inr among) = first (first_or_behind e es x among)

  -- the first one is marked
  pub tracks_marked : IsMarked b.numbers b.problem n e → Tracks n es b
  tracks_marked h none room x on free = by (t none room x on free)
    where
      first : (e ≡ x) ⊎ Contains es x → IsTracked n es b x
      first (inl same) = inl (subst (IsMarked b.numbers b.problem n) same h)
      first (inr among) = inr among

      by : IsTracked n (e ∷ es) b x → IsTracked n es b x
      by (inl k) = inl k
      by (inr among) = first (first_or_behind e es x among)

-- ---- the problem changes, and what changes is noted
abbrev pub ReadsNoted : List Part → List Part → Type 0
ReadsNoted noted ps = (a : Part) × Contains ps a × Contains noted a

behind : (a : Part) (ps noted : List Part) → ReadsNoted noted ps → ReadsNoted noted (a ∷ ps)
behind a ps noted (x, (k, l, h), c) = (x, (suc k, omega (arith, l), h), c)

pub parts_kept : (p q : Sparse) (n m : List Part) → AreNoted p q n m → (ps : List Part) → ReadsNoted m ps ⊎ (map (read_of p) ps ≡ map (read_of q) ps)
parts_kept p q n m h [] = inr refl
parts_kept p q n m h (a ∷ ps) = by (h.changed a) (parts_kept p q n m h ps)
  where
    by : (read_of q a ≡ read_of p a) ⊎ Contains m a → ReadsNoted m ps ⊎ (map (read_of p) ps ≡ map (read_of q) ps) → ReadsNoted m (a ∷ ps) ⊎ (map (read_of p) (a ∷ ps) ≡ map (read_of q) (a ∷ ps))
    by (inr c) k = inl (a, (0, omega arith, refl), c)
    by (inl e) (inl x) = inl (behind a ps m x)
    by (inl e) (inr g) = inr (ap₂ (λ (x : Read) (xs : List Read). x ∷ xs) (sym e) g)

parts_seen : (R : Form → Form → Type 0) (p q : Sparse) (n m : List Part) → LetsNoMore R p q n m → (ps : List Part) → ReadsNoted m ps ⊎ EachLets R (map (seen_at q) ps) (map (seen_at p) ps)
parts_seen R p q n m h [] = inr tt
parts_seen R p q n m h (a ∷ ps) = by (h.changed a) (parts_seen R p q n m h ps)
  where
    by : Lets R (seen_at q a) (seen_at p a) ⊎ Contains m a → ReadsNoted m ps ⊎ EachLets R (map (seen_at q) ps) (map (seen_at p) ps) → ReadsNoted m (a ∷ ps) ⊎ EachLets R (map (seen_at q) (a ∷ ps)) (map (seen_at p) (a ∷ ps))
    by (inr c) k = inl (a, (0, omega arith, refl), c)
    by (inl e) (inl x) = inl (behind a ps m x)
    by (inl e) (inr g) = inr (e, g)

-- for a rule that goes by forms
parts_let : (p q : Sparse) (n m : Marks) → AreStirred p q n m → (r : Reach) → goes_by_form r ≡ true → (ps : List Part) → ReadsNoted (parts_for m r) ps ⊎ EachLets (lets_by r) (map (seen_at q) ps) (map (seen_at p) ps)
parts_let p q n m s OwnRow t ps = absurd (true≢false (sym t))
parts_let p q n m s OwnColumn t ps = absurd (true≢false (sym t))
parts_let p q n m s RowsOfBounds t ps = absurd (true≢false (sym t))
parts_let p q n m s ColumnsOfSides t ps = parts_seen LetsByCost p q n.stirred m.stirred s.stirred ps
parts_let p q n m s RowsOfBoth t ps = parts_seen LetsInPairs p q n.roused m.roused s.roused ps
parts_let p q n m s SoleColumns t ps = absurd (true≢false (sym t))
parts_let p q n m s RowsBeside t ps = absurd (true≢false (sym t))
parts_let p q n m s ColumnsBeside t ps = absurd (true≢false (sym t))

-- the parts that count for a rule that does not
pub noted_count : (m : Marks) (r : Reach) → goes_by_form r ≡ false → parts_for m r ≡ m.noted
noted_count m OwnRow t = refl
noted_count m OwnColumn t = refl
noted_count m RowsOfBounds t = refl
noted_count m ColumnsOfSides t = absurd (true≢false t)
noted_count m RowsOfBoth t = absurd (true≢false t)
noted_count m SoleColumns t = refl
noted_count m RowsBeside t = refl
noted_count m ColumnsBeside t = refl

-- parts that count go on to
counts_still : (n m : Marks) → Grows n m → (r : Reach) (a : Part) → Contains (parts_for n r) a → Contains (parts_for m r) a
counts_still n m h OwnRow a c = h.noted a c
counts_still n m h OwnColumn a c = h.noted a c
counts_still n m h RowsOfBounds a c = h.noted a c
counts_still n m h ColumnsOfSides a c = h.stirred a c
counts_still n m h RowsOfBoth a c = h.roused a c
counts_still n m h SoleColumns a c = h.noted a c
counts_still n m h RowsBeside a c = h.noted a c
counts_still n m h ColumnsBeside a c = h.noted a c

module _ (n m : Marks) (es : List Instance) (b c : Ledger) (h : AreNoted b.problem c.problem n.noted m.noted) (s : AreStirred b.problem c.problem n m) (alike : c.numbers ≡ b.numbers)
    (sleeps : (a : Part) → Contains n.asleep a → Contains m.asleep a) (before : (e : Instance) → is_open (open_on c.tally) e ≡ true → is_open (open_on b.tally) e ≡ true) where
  grows : Grows n m
  grows = record { noted = h.kept; stirred = s.stirred.kept; roused = s.roused.kept; asleep = sleeps }

  -- an instance that reads the same parts and was marked still is
  still_noted : (x : Instance) → reads b.problem x ≡ reads c.problem x → IsNoted b.problem (parts_for n (reach_of (rule_at x))) x → IsNoted c.problem (parts_for m (reach_of (rule_at x))) x
  still_noted x same (a, r, k) = (a, subst (λ (ps : List Part). Contains ps a) same r, counts_still n m grows (reach_of (rule_at x)) a k)

  -- an instance that reads what it read
  module _ (x : Instance) (same : map (read_of b.problem) (reads c.problem x) ≡ map (read_of c.problem) (reads c.problem x)) where
    still_rests : RestsOnReading b.numbers b.problem x → RestsOnReading c.numbers c.problem x
    still_rests rests = subst (λ (k : Numbers). RestsOnReading k c.problem x) (sym alike) (λ q g. rests q (g ∙ sym (reading_same c.problem b.problem x same)))

    stays : IsTracked n es b x → IsTracked m es c x
    stays (inl (inl k)) = inl (inl (still_noted x (parts_same c.problem b.problem x same) k))
    stays (inl (inr k)) = let told = k.told in
        inl (inr (record { told = (told.0, subst (λ (ps : List Part). Contains ps told.0) (parts_same c.problem b.problem x same) told.1, sleeps told.0 told.2); rests = still_rests k.rests; by_ends = k.by_ends }))
    stays (inr among) = inr among

  -- one of whose parts each lets what it let
  module _ (x : Instance) (by_form : goes_by_form (reach_of (rule_at x)) ≡ true) (lets : EachLets (lets_by (reach_of (rule_at x))) (map (seen_at c.problem) (reads c.problem x)) (map (seen_at b.problem) (reads c.problem x))) where
    stays_seen : IsTracked n es b x → IsTracked m es c x
    stays_seen (inl (inl k)) = inl (inl (still_noted x (parts_by_form c.problem b.problem x by_form lets) k))
    stays_seen (inl (inr k)) = absurd (true≢false (sym by_form ∙ k.by_ends))
    stays_seen (inr among) = inr among

  pub tracks_changed : b.verdict ≡ None → length b.history < b.limit → Tracks n es b → Tracks m es c
  tracks_changed none room t none' room' x on free = by (goes_by_form (reach_of (rule_at x))) refl
    where
      by_reading : goes_by_form (reach_of (rule_at x)) ≡ false → ReadsNoted m.noted (reads c.problem x) ⊎ (map (read_of b.problem) (reads c.problem x) ≡ map (read_of c.problem) (reads c.problem x)) → IsTracked m es c x
      by_reading e (inl (a, r, k)) = inl (inl (a, r, subst (λ (ps : List Part). Contains ps a) (sym (noted_count m (reach_of (rule_at x)) e)) k))
      by_reading e (inr same) = stays x same (t none room x (enabled_same c.problem b.problem x same ∙ on) (before x free))

      by_seeing : goes_by_form (reach_of (rule_at x)) ≡ true
          → ReadsNoted (parts_for m (reach_of (rule_at x))) (reads c.problem x) ⊎ EachLets (lets_by (reach_of (rule_at x))) (map (seen_at c.problem) (reads c.problem x)) (map (seen_at b.problem) (reads c.problem x)) → IsTracked m es c x
      by_seeing e (inl (a, r, k)) = inl (inl (a, r, k))
      by_seeing e (inr lets) = stays_seen x e lets (t none room x (enabled_by_form c.problem b.problem x e lets on) (before x free))

      by : (f : Bool) → goes_by_form (reach_of (rule_at x)) ≡ f → IsTracked m es c x
      by true e = by_seeing e (parts_let b.problem c.problem n m s (reach_of (rule_at x)) e (reads c.problem x))
      by false e = by_reading e (parts_kept b.problem c.problem n.noted m.noted h (reads c.problem x))

-- more is marked
pub marked_more : (numbers : Numbers) (p : Sparse) (n m : Marks) (e : Instance) → Grows n m → IsMarked numbers p n e → IsMarked numbers p m e
marked_more numbers p n m e h (inl (a, r, k)) = inl (a, r, counts_still n m h (reach_of (rule_at e)) a k)
marked_more numbers p n m e h (inr k) = let told = k.told in inr (record { told = (told.0, told.1, h.asleep told.0 told.2); rests = k.rests; by_ends = k.by_ends })

pub tracks_more : (n m : Marks) (es : List Instance) (b : Ledger) → Grows n m → Tracks n es b → Tracks m es b
tracks_more n m es b h t none room x on free = by (t none room x on free)
  where
    by : IsTracked n es b x → IsTracked m es b x
    by (inl k) = inl (marked_more b.numbers b.problem n m x h k)
    by (inr k) = inr k

pub grows_none : (n : Marks) → Grows n n
grows_none n = record { noted = λ a x. x; stirred = λ a x. x; roused = λ a x. x; asleep = λ a x. x }

-- ---- one pass after another
pub passed_on : (opens : Open) (f : Sparse) (v : ℕ) (es fs : List Instance) (n m k : Marks) (b c d : Ledger) → Passed opens f v es n b m c → Passed opens f v fs m c k d → Passed opens f v (es ++ fs) n b k d
passed_on opens f v es fs n m k b c d x y = record {
  book = record { start = y.book.start ∙ x.book.start; numbers = y.book.numbers ∙ x.book.numbers; limit = y.book.limit ∙ x.book.limit };
  before = x.before;
  committed = subst (λ ps. Committed b ps d) (sym (proposals_append f v es fs)) (committed_append b c d (proposals f v es) (proposals f v fs) x.committed y.committed);
  follows = y.follows;
  tracks = λ rest t. y.tracks rest (x.tracks (fs ++ rest) (subst (λ (gs : List Instance). Tracks n gs b) (append_assoc es fs rest) t));
  moved = λ a. both_moved a (x.moved a) (y.moved a);
  grows = record { noted = λ a h. y.grows.noted a (x.grows.noted a h); stirred = λ a h. y.grows.stirred a (x.grows.stirred a h); roused = λ a h. y.grows.roused a (x.grows.roused a h); asleep = λ a h. y.grows.asleep a (x.grows.asleep a h) };
}
  where
    both_moved : (a : Part) → (changes_of c.problem a ≡ changes_of b.problem a) ⊎ Contains m.noted a → (changes_of d.problem a ≡ changes_of c.problem a) ⊎ Contains k.noted a
        → (changes_of d.problem a ≡ changes_of b.problem a) ⊎ Contains k.noted a
    both_moved a (inl e) (inl g) = inl (g ∙ e)
    both_moved a (inl e) (inr h) = inr h
    both_moved a (inr h) z = inr (y.grows.noted a h)

pub passed_none : (opens : Open) (f : Sparse) (v : ℕ) (n : Marks) (b : Ledger) → Follows opens f b → Passed opens f v [] n b n b
passed_none opens f v n b h = record { book = record { start = refl; numbers = refl; limit = refl }; before = h; committed = refl; follows = h; tracks = λ rest t. t; moved = λ a. inl refl; grows = grows_none n }
