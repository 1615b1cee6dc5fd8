-- K9.
use Rattle.std.proofs.Common.{◌≡◌, ◌≢◌, T, not, ℕ, Bool, true, false, true≢false, ◌&&◌, pos, List, [], ◌∷◌, Option, Some, None, is_some, Result, Ok, Err, refl, sym, ap, ap₂, ◌∙◌, subst}
use Rattle.std.specs.Prelude.{if◌then◌else◌}
use Rattle.std.proofs.lemmas.Bool.{and_parts}
use Rattle.fractions.specs.Number.{Number, rational, zero_ℚ, one_ℚ, neg_ℚ, ◌+ℚ◌, ◌-ℚ◌, ◌*ℚ◌}
use Rattle.fractions.specs.Ring.{ring, v, num, inv, ◌:*◌, ◌:+◌, ◌:-◌}
use Rattle.fractions.specs.Order.{◌<ℚ◌, <ℚ-≤ℚ, non_neg_ℚ}
use Rattle.fractions.proofs.MinMaxLaws.{abs_ℚ-is, abs_ℚ-neg}
use Rattle.fractions.specs.Signs.{<ℚ-≢, <ℚ-≢'}
use Rattle.lp_theory.proofs.ActivityLaws.{lt_true, lt_false}
use Rattle.fractions.specs.Compare.{lt_ℚ}
use Rattle.fractions.specs.Ends.{scaled}
use Rattle.fractions.specs.Floor.{IsWhole, is_whole}
use Rattle.fractions.specs.MinMax.{abs_ℚ}
use Rattle.fractions.specs.Comparisons.{lt_ℚ-is}
use Rattle.fractions.proofs.Floors.{is_whole-is}
use Rattle.fractions.specs.declared.Past.{Past}
use Rattle.lp_model.specs.declared.program.Sense.TheVariants.{Min}
use Rattle.lp_model.specs.Ends.{IsSided}
use Rattle.lp_model.specs.LinearProgram.{LinearProgram}
use Rattle.lp_model.specs.Sparse.{dense, has}
use Rattle.lp_rows.specs.CoefficientTightening as theory
use Rattle.lp_rows.specs.CoefficientTightening.{OneSide}
use Rattle.lp_rows.specs.CoefficientTightening.OneSide.{Lower as LowerAlone, Upper as UpperAlone}
use Rattle.lp_rows.proofs.CoefficientTightening.{coefficient_tightening}
use Rattle.undo_records.specs.declared.side.Side.{Side}
use Rattle.undo_records.specs.declared.side.Side.TheVariants.{Lower, Upper}
use Rattle.rule_words.specs.LiftPair.{undone_pair}
use Rattle.pair_laws.proofs.RowPairs.{coefficient_pair}
use Rattle.problem_model.specs.declared.edit.Edit.{Edit}
use Rattle.problem_model.specs.declared.edit.Edit.TheVariants.{SetEntry, SetSides}
use Rattle.problem_model.specs.Allowed.{AreAllowed}
use Rattle.problem_model.specs.Problems.{row_at, column_at, sides_at, bounds_at, row_entries, IsSparse}
use Rattle.problem_model.specs.Showing.{shown}
use Rattle.problem_model.specs.Sparse.{Sparse}
use Rattle.problem_laws.proofs.AtIds.{column_inside, row_inside}
use Rattle.problem_laws.proofs.Entries.{has-live_only}
use Rattle.problem_laws.proofs.EntriesKept.{put_row_live}
use Rattle.rule_words.specs.Owed.{Owes}
use Rattle.rule_words.proofs.Coefficients.{coefficient_in_row, end_live}
use Rattle.rule_words.proofs.EndTestsSay.{not_true}
use Rattle.rule_words.proofs.Named.{nothing_twice, one_on, two_sided}
use Rattle.edit_laws.proofs.Reducing.{by_edits, pairs_by_edits}
use Rattle.row_spans.specs.declared.span.Extreme.TheVariants.{Least, Greatest}
use Rattle.row_spans.specs.declared.span.Span.{Span}
use Rattle.row_spans.specs.Exact.{exact_difference, exact_product, exact_sum, if_room}
use Rattle.row_spans.specs.RowSums.{continued, rest}
use Rattle.row_spans.specs.Spans.{span_of, spans_of}
use Rattle.row_spans.proofs.Bridge.{rest-is}
use Rattle.activity_laws.specs.BoundTightening.{entry_at, if_made}
use Rattle.activity_laws.proofs.Rows.{said}
use Rattle.activity_laws.proofs.BoundTightening.{found}
use Rattle.coef_laws.specs.declared.tightening.Tightening.{Tightening}
use Rattle.coef_laws.specs.CoefficientTightening.{Shrinks, best_bound, edits, edits_by, enabled, extreme_of, given, if_finite, if_short, is_coefficient_tightening, left_at, new_coefficient, new_limit, next_best, one_side, record_of, side_set, slack, step, tightened_at, tightened_by, tightened_in, tightening, tightening_of, turned, whole_bounds}
use Rattle.problem_model.specs.Showing.{reach_low, reach_high}

-- ---- what comes of a value
pub record IsGiven (A B : Type 0) (o : Option A) (f : A → Option B) (b : B) : Type 0 where
  pub value : A
  pub there : o ≡ Some value
  pub after : f value ≡ Some b

pub is_given : (A B : Type 0) (o : Option A) (f : A → Option B) (b : B) → given o f ≡ Some b → IsGiven A B o f b
is_given A B None f b e = cc
is_given A B (Some a) f b e = record { value = a; there = refl; after = e }

-- ---- numbers that are made
record IsContinued (r : Result Number Past) (f : Number → Result Number Past) (d : Number) : Type 0 where
  value : Number
  there : r ≡ Ok value
  after : if_made (f value) ≡ Some d

is_continued : (r : Result Number Past) (f : Number → Result Number Past) (d : Number) → if_made (continued r f) ≡ Some d → IsContinued r f d
is_continued (Ok a) f d e = record { value = a; there = refl; after = e }
is_continued (Err x) f d e = cc

room_is : (b : Bool) (q d : Number) → if_room b q ≡ Ok d → q ≡ d
room_is true q d e = cc
room_is false q d e = cc

made_is : (r : Result Number Past) (d : Number) → if_made r ≡ Some d → r ≡ Ok d
made_is (Ok a) d e = cc
made_is (Err x) d e = cc

left_is : (a b h x d : Number) → if_made (left_at a b h x) ≡ Some d → b -ℚ h -ℚ a *ℚ x ≡ d
left_is a b h x d e =
    let m = is_continued (exact_difference b h) (λ q. continued (exact_product a x) (λ r. exact_difference q r)) d e in
    let n = is_continued (exact_product a x) (λ r. exact_difference m.value r) d m.after in
    ap₂ (λ q r. q -ℚ r) (room_is _ (b -ℚ h) m.value m.there) (room_is _ (a *ℚ x) n.value n.there) ∙ room_is _ (m.value -ℚ n.value) d (made_is _ d n.after)

pub slack_is : (a b h l u d : Number) → if_made (slack a b h l u) ≡ Some d → (if lt_ℚ zero_ℚ a then b -ℚ h -ℚ a *ℚ (u -ℚ one_ℚ) else b -ℚ h -ℚ a *ℚ (l +ℚ one_ℚ)) ≡ d
slack_is a b h l u d e = let m = is_continued (next_best a l u) (left_at a b h) d e in by (lt_ℚ zero_ℚ a) m.value m.there ∙ left_is a b h m.value d m.after
  where
    by : (c : Bool) (x : Number) → (if c then exact_difference u one_ℚ else exact_sum l one_ℚ) ≡ Ok x → (if c then b -ℚ h -ℚ a *ℚ (u -ℚ one_ℚ) else b -ℚ h -ℚ a *ℚ (l +ℚ one_ℚ)) ≡ b -ℚ h -ℚ a *ℚ x
    by true x f = ap (λ y. b -ℚ h -ℚ a *ℚ y) (room_is _ (u -ℚ one_ℚ) x f)
    by false x f = ap (λ y. b -ℚ h -ℚ a *ℚ y) (room_is _ (l +ℚ one_ℚ) x f)

-- ---- bounds and sides
pub record AreBounds (l u : Option Number) (w : Bool) (b : Number × Number) : Type 0 where
  pub lower : l ≡ Some b.0
  pub upper : u ≡ Some b.1
  pub whole : w ≡ true
  pub whole_lower : IsWhole b.0
  pub whole_upper : IsWhole b.1

pub are_bounds : (l u : Option Number) (w : Bool) (b : Number × Number) → whole_bounds l u w ≡ Some b → AreBounds l u w b
are_bounds None u w b e = cc
are_bounds (Some x) None w b e = cc
are_bounds (Some x) (Some y) false b e = cc
are_bounds (Some x) (Some y) true b e = by (is_whole x && (is_whole y && lt_ℚ x y)) refl e
  where
    of : is_whole x ≡ true → is_whole y ≡ true → (x, y) ≡ b → AreBounds (Some x) (Some y) true b
    of f g h = record {
      lower = ap (λ (c : Number × Number). Some c.0) h;
      upper = ap (λ (c : Number × Number). Some c.1) h;
      whole = refl;
      whole_lower = subst (λ (c : Number × Number). IsWhole c.0) h ((is_whole-is x).0 f);
      whole_upper = subst (λ (c : Number × Number). IsWhole c.1) h ((is_whole-is y).0 g);
    }

    pair_is : (c d : Number × Number) → Some c ≡ Some d → c ≡ d
    pair_is c d g = cc

    by : (c : Bool) → (is_whole x && (is_whole y && lt_ℚ x y)) ≡ c → (if c then Some (x, y) else None) ≡ Some b → AreBounds (Some x) (Some y) true b
    by true f g = let k = and_parts (is_whole x) (is_whole y && lt_ℚ x y) f in of k.0 (and_parts (is_whole y) (lt_ℚ x y) k.1).0 (pair_is (x, y) b g)
    by false f g = cc

-- the words of the theory for a side
abbrev side_of : Side → OneSide
side_of Lower = LowerAlone
side_of Upper = UpperAlone

record IsSide (l u : Option Number) (side : Side × Number) : Type 0 where
  lower : l ≡ theory.lower_alone (side_of side.0) side.1
  upper : u ≡ theory.upper_alone (side_of side.0) side.1

is_side : (l u : Option Number) (side : Side × Number) → one_side l u ≡ Some side → IsSide l u side
is_side None None side e = cc
is_side (Some b) (Some c) side e = cc
is_side (Some b) None side e = subst (IsSide (Some b) None) (same (Lower, b) side e) (record { lower = refl; upper = refl })
  where
    same : (c d : Side × Number) → Some c ≡ Some d → c ≡ d
    same c d g = cc
is_side None (Some b) side e = subst (IsSide None (Some b)) (same (Upper, b) side e) (record { lower = refl; upper = refl })
  where
    same : (c d : Side × Number) → Some c ≡ Some d → c ≡ d
    same c d g = cc

pub finite_is : (r : Result (Option Number) Past) (h : Number) → if_finite r ≡ Some h → r ≡ Ok (Some h)
finite_is (Ok e) h f = ap Ok f
finite_is (Err x) h f = cc

pub record IsShort (t s : Tightening) : Type 0 where
  pub same : t ≡ s
  pub positive : zero_ℚ <ℚ t.slack
  pub below : t.slack <ℚ abs_ℚ t.coefficient

pub is_short : (t s : Tightening) → if_short t ≡ Some s → IsShort t s
is_short t s e = by (lt_ℚ zero_ℚ t.slack && lt_ℚ t.slack (abs_ℚ t.coefficient)) refl e
  where
    same_is : Some t ≡ Some s → t ≡ s
    same_is g = cc

    by : (c : Bool) → (lt_ℚ zero_ℚ t.slack && lt_ℚ t.slack (abs_ℚ t.coefficient)) ≡ c → (if c then Some t else None) ≡ Some s → IsShort t s
    by true f g = let k = and_parts (lt_ℚ zero_ℚ t.slack) (lt_ℚ t.slack (abs_ℚ t.coefficient)) f in
        record { same = same_is g; positive = (lt_ℚ-is _ _).0 k.0; below = (lt_ℚ-is _ _).0 k.1 }
    by false f g = cc

-- ---- what a tightening says of a row
abbrev pub told : Side → Number → Number → Number → Number → Number → Number → Tightening
told f a b l u h d = record { side = f; coefficient = turned f a; limit = turned f b; bound = best_bound (turned f a) l u; slack = d }

record Tells (j : ℕ) (l u : Option Number) (ss : List Span) (t : Tightening) : Type 0 where
  side : Side
  limit : Number
  sides : IsSide l u (side, limit)
  span : Span
  entry : entry_at j ss ≡ Some span
  bounds : Number × Number
  are : AreBounds span.lower span.upper (not span.semi && span.whole) bounds
  greatest : Number
  known : rest (extreme_of side) j ss ≡ Ok (Some greatest)
  gap : Number
  gap_is : if_made (slack (turned side span.value) (turned side limit) (turned side greatest) bounds.0 bounds.1) ≡ Some gap
  short : IsShort (told side span.value limit bounds.0 bounds.1 greatest gap) t

tells : (j : ℕ) (l u : Option Number) (ss : List Span) (t : Tightening) → tightening j l u ss ≡ Some t → Tells j l u ss t
tells j l u ss t e =
    let a = is_given (Side × Number) Tightening (one_side l u) (λ x. tightened_in x.0 x.1 j ss) t e in
    let f : Side = a.value.0 in
    let b : Number = a.value.1 in
    let c = is_given Span Tightening (entry_at j ss) (λ s. tightened_at f b s (rest (extreme_of f) j ss)) t a.after in
    let s : Span = c.value in
    let k = is_given (Number × Number) Tightening (whole_bounds s.lower s.upper (not s.semi && s.whole)) (λ bounds. given (if_finite (rest (extreme_of f) j ss)) (λ h. tightened_by f (turned f s.value) (turned f b) (turned f h) bounds.0 bounds.1)) t c.after in
    let m = is_given Number Tightening (if_finite (rest (extreme_of f) j ss)) (λ h. tightened_by f (turned f s.value) (turned f b) (turned f h) k.value.0 k.value.1) t k.after in
    let n = is_given Number Tightening (if_made (slack (turned f s.value) (turned f b) (turned f m.value) k.value.0 k.value.1)) (λ d. if_short (told f s.value b k.value.0 k.value.1 m.value d)) t m.after in
    record {
      side = f;
      limit = b;
      sides = is_side l u a.value a.there;
      span = s;
      entry = c.there;
      bounds = k.value;
      are = are_bounds s.lower s.upper (not s.semi && s.whole) k.value k.there;
      greatest = m.value;
      known = finite_is (rest (extreme_of f) j ss) m.value m.there;
      gap = n.value;
      gap_is = n.there;
      short = is_short (told f s.value b k.value.0 k.value.1 m.value n.value) t n.after;
    }

-- what it says of the entry of column j
pub record IsEntry (p : Sparse) (i j : ℕ) (t : Tightening) : Type 0 where
  pub named : has j (row_entries p i) ≡ true
  pub coefficient : turned t.side (dense (row_entries p i) j) ≡ t.coefficient

pub entry_told : (p : Sparse) (i j : ℕ) (t : Tightening) → tightening_of p i j ≡ Some t → IsEntry p i j t
entry_told p i j t e =
    let x = tells j (sides_at p i).lower (sides_at p i).upper (spans_of p i) t e in
    let there = found p j (row_entries p i) x.span x.entry in
    record {
      named = there.named;
      coefficient = ap (λ (y : Span). turned t.side y.value) (sym there.span)
          ∙ ap (λ (f : Side). turned f x.span.value) (sym (ap (λ (y : Tightening). y.side) x.short.same))
          ∙ ap (λ (y : Tightening). y.coefficient) x.short.same;
    }

-- ---- in the words of the theory
turned_is : (f : Side) (q : Number) → turned f q ≡ theory.sign (side_of f) *ℚ q
turned_is Lower q = ring rational (q ∷ []) (inv (v 0)) (inv (num (pos 1)) :* v 0) refl
turned_is Upper q = ring rational (q ∷ []) (v 0) (num (pos 1) :* v 0) refl

shrunk_is : (a d : Number) → a +ℚ step a d ≡ theory.shrunk a d
shrunk_is a d = by (lt_ℚ zero_ℚ a)
  where
    by : (c : Bool) → a +ℚ (if c then neg_ℚ d else d) ≡ (if c then a -ℚ d else a +ℚ d)
    by true = refl
    by false = refl

moved_is : (a b d l u : Number) → b +ℚ step a (d *ℚ best_bound a l u) ≡ (if lt_ℚ zero_ℚ a then b -ℚ d *ℚ u else b +ℚ d *ℚ l)
moved_is a b d l u = by (lt_ℚ zero_ℚ a)
  where
    by : (c : Bool) → b +ℚ (if c then neg_ℚ (d *ℚ (if c then u else l)) else d *ℚ (if c then u else l)) ≡ (if c then b -ℚ d *ℚ u else b +ℚ d *ℚ l)
    by true = refl
    by false = refl

set_is : (f : Side) (i : ℕ) (b : Number) → side_set f i b ≡ SetSides i (theory.lower_alone (side_of f) b) (theory.upper_alone (side_of f) b)
set_is Lower i b = refl
set_is Upper i b = refl

one_sided_ends : (f : OneSide) (b : Number) → IsSided (theory.lower_alone f b) (theory.upper_alone f b)
one_sided_ends LowerAlone b = tt
one_sided_ends UpperAlone b = tt

rest_known : (p : Sparse) (i j : ℕ) (f : Side) (h : Number) → IsSparse p → (row_at p i).live ≡ true → rest (extreme_of f) j (spans_of p i) ≡ Ok (Some h) → theory.greatest_rest_of (side_of f) (shown p) i j ≡ Some (turned f h)
rest_known p i j Lower h s live e = ap (scaled (neg_ℚ one_ℚ)) (sym (rest-is p i j Least (Some h) s live e)) ∙ ap Some (sym (turned_is Lower h))
rest_known p i j Upper h s live e = sym (rest-is p i j Greatest (Some h) s live e)

module _ (p : Sparse) (i j : ℕ) (s : IsSparse p) (live : (row_at p i).live ≡ true) (t : Tightening) (x : Tells j (sides_at p i).lower (sides_at p i).upper (spans_of p i) t) where
  abbrev M : LinearProgram
  M = shown p

  abbrev f : OneSide
  f = side_of x.side

  abbrev a : Number
  a = turned x.side x.span.value

  abbrev b : Number
  b = turned x.side x.limit

  abbrev numbers_there : theory.Tightening
  numbers_there = record { lower = x.bounds.0; upper = x.bounds.1; side = x.limit; rest = turned x.side x.greatest }

  named : has j (row_entries p i) ≡ true
  named = (found p j (row_entries p i) x.span x.entry).named

  span_is : x.span ≡ span_of p (record { id = j; value = dense (row_entries p i) j })
  span_is = (found p j (row_entries p i) x.span x.entry).span

  column_on : (column_at p j).live ≡ true
  column_on = (and_parts (column_at p j).live (has j (row_at p i).entries) (sym (has-live_only p.matrix.columns j (row_at p i).entries) ∙ named)).0

  entry_is : M.coefficient i j ≡ x.span.value
  entry_is = coefficient_in_row p i j ∙ ap (λ (on : Bool). if on then dense (row_entries p i) j else zero_ℚ) live ∙ sym (ap (λ (y : Span). y.value) span_is)

  a_is : theory.sign f *ℚ M.coefficient i j ≡ a
  a_is = ap (λ q. theory.sign f *ℚ q) entry_is ∙ sym (turned_is x.side x.span.value)

  b_is : theory.sign f *ℚ x.limit ≡ b
  b_is = sym (turned_is x.side x.limit)

  gap_at : theory.slack_at M i j f numbers_there ≡ x.gap
  gap_at = ap₂ (λ q r. theory.slack_of q r numbers_there) a_is b_is ∙ slack_is a b (turned x.side x.greatest) x.bounds.0 x.bounds.1 x.gap x.gap_is

  enabled_there : theory.IsCoefficientTightening M i j f numbers_there
  enabled_there = record {
    row = row_inside p i live;
    column = column_inside p j column_on;
    lower_side = end_live (row_at p i).live (sides_at p i).lower live ∙ x.sides.lower;
    upper_side = end_live (row_at p i).live (sides_at p i).upper live ∙ x.sides.upper;
    rest = rest_known p i j x.side x.greatest s live x.known;
    whole = ap₂ (λ (c d : Bool). c && d) column_on (sym (ap (λ (y : Span). y.whole) span_is) ∙ (and_parts (not x.span.semi) x.span.whole x.are.whole).1);
    lower = end_live (column_at p j).live (reach_low (bounds_at p j)) column_on ∙ sym (ap (λ (y : Span). y.lower) span_is) ∙ x.are.lower;
    upper = end_live (column_at p j).live (reach_high (bounds_at p j)) column_on ∙ sym (ap (λ (y : Span). y.upper) span_is) ∙ x.are.upper;
    whole_lower = x.are.whole_lower;
    whole_upper = x.are.whole_upper;
    positive = subst (λ d. zero_ℚ <ℚ d) (sym gap_at) x.short.positive;
    short = subst (λ d. d <ℚ abs_ℚ (theory.sign f *ℚ M.coefficient i j)) (sym gap_at) (subst (λ q. x.gap <ℚ abs_ℚ q) (sym a_is) x.short.below);
  }

  abbrev one_told : Tightening
  one_told = told x.side x.span.value x.limit x.bounds.0 x.bounds.1 x.greatest x.gap

  coefficient_is : theory.new_coefficient M i j f numbers_there ≡ turned x.side (new_coefficient one_told)
  coefficient_is = ap₂ (λ q d. theory.sign f *ℚ theory.shrunk q d) a_is gap_at ∙ ap (λ q. theory.sign f *ℚ q) (sym (shrunk_is a x.gap)) ∙ sym (turned_is x.side (new_coefficient one_told))

  side_is : theory.new_side M i j f numbers_there ≡ turned x.side (new_limit one_told)
  side_is = ap₂ (λ q r. theory.sign f *ℚ theory.moved_side q r numbers_there (theory.slack_at M i j f numbers_there)) a_is b_is
      ∙ ap (λ d. theory.sign f *ℚ theory.moved_side a b numbers_there d) gap_at
      ∙ ap (λ q. theory.sign f *ℚ q) (sym (moved_is a b x.gap x.bounds.0 x.bounds.1)) ∙ sym (turned_is x.side (new_limit one_told))

  -- an entry, and a side alone
  abbrev edits_with : Number → Number → List Edit
  edits_with c e = SetEntry i j c ∷ SetSides i (theory.lower_alone f e) (theory.upper_alone f e) ∷ []

  edits_are : edits_by i j (Some t) ≡ edits_with (theory.new_coefficient M i j f numbers_there) (theory.new_side M i j f numbers_there)
  edits_are = ap (λ (y : Tightening). edits_by i j (Some y)) (sym x.short.same)
      ∙ ap (λ (e : Edit). SetEntry i j (turned x.side (new_coefficient one_told)) ∷ e ∷ []) (set_is x.side i (turned x.side (new_limit one_told)))
      ∙ ap₂ edits_with (sym coefficient_is) (sym side_is)

  allowed : (c e : Number) → AreAllowed p (edits_with c e)
  allowed c e = ((live, column_on), (put_row_live p i j c live i ∙ live, tt))

  owes_with : Owes p (edits_with (theory.new_coefficient M i j f numbers_there) (theory.new_side M i j f numbers_there)) (record_of p i j)
  owes_with = let c = theory.new_coefficient M i j f numbers_there in let e = theory.new_side M i j f numbers_there in record {
    allowed = allowed c e;
    ordered = tt;
    reduces = by_edits p (edits_with c e) (theory.coefficient_tightened M i j f numbers_there) (λ y. y) zero_ℚ s (allowed c e) refl nothing_twice (coefficient_tightening M i j f numbers_there enabled_there Min);
    pairs = λ continuous. pairs_by_edits p (edits_with c e) (theory.coefficient_tightened M i j f numbers_there) (undone_pair (record_of p i j)) s (allowed c e) refl (coefficient_pair M i j f numbers_there enabled_there);
    rays = λ continuous. absurd (true≢false (sym enabled_there.whole ∙ (continuous j (column_inside p j column_on)).0));
    sided = λ numbers h. two_sided (SetEntry i j c) (SetSides i (theory.lower_alone f e) (theory.upper_alone f e)) tt (one_sided_ends f e);
    sound = (row_inside p i live, column_inside p j column_on);
    names = (one_on p.matrix.rows i live, one_on p.matrix.columns j column_on);
    deletes = refl;
  }

  owes_by : Owes p (edits_by i j (Some t)) (record_of p i j)
  owes_by = subst (λ es. Owes p es (record_of p i j)) (sym edits_are) owes_with

pub owes : (p : Sparse) (i j : ℕ) → IsSparse p → enabled p i j ≡ true → Owes p (edits p i j) (record_of p i j)
owes p i j s e = let h = said (is_coefficient_tightening j) p i e in by h.live (tightening_of p i j) refl h.holds
  where
    by : (row_at p i).live ≡ true → (o : Option Tightening) → tightening_of p i j ≡ o → is_some o ≡ true → Owes p (edits p i j) (record_of p i j)
    by live None f h = absurd (not_true h)
    by live (Some t) f h = subst (λ o. Owes p (edits_by i j o) (record_of p i j)) (sym f)
        (owes_by p i j s live t (tells j (sides_at p i).lower (sides_at p i).upper (spans_of p i) t f))

-- ---- a coefficient that shrinks
less_by : (p q r s : Number) → p -ℚ q ≡ r -ℚ s → p <ℚ q → r <ℚ s
less_by p q r s e h = record { lt = subst (λ d. T (not (non_neg_ℚ d))) e h.lt }

record IsSmaller (a c : Number) : Type 0 where
  some : c ≢ zero_ℚ
  closer : abs_ℚ c <ℚ abs_ℚ a

smaller : (a d : Number) → zero_ℚ <ℚ d → d <ℚ abs_ℚ a → IsSmaller a (a +ℚ step a d)
smaller a d p q = by (lt_ℚ zero_ℚ a) refl
  where
    by : (c : Bool) → lt_ℚ zero_ℚ a ≡ c → IsSmaller a (a +ℚ (if c then neg_ℚ d else d))
    by true e =
        let same : abs_ℚ a ≡ a = abs_ℚ-is a (<ℚ-≤ℚ (lt_true _ _ e)) in
        let above : zero_ℚ <ℚ (a -ℚ d) = less_by d a zero_ℚ (a -ℚ d) (ring rational (a ∷ d ∷ []) (v 1 :- v 0) (num (pos 0) :- (v 0 :- v 1)) refl) (subst (λ x. d <ℚ x) same q) in
        let below : (a -ℚ d) <ℚ a = less_by zero_ℚ d (a -ℚ d) a (ring rational (a ∷ d ∷ []) (num (pos 0) :- v 1) ((v 0 :- v 1) :- v 0) refl) p in
        record { some = <ℚ-≢ above; closer = subst (λ x. x <ℚ abs_ℚ a) (sym (abs_ℚ-is (a -ℚ d) (<ℚ-≤ℚ above))) (subst (λ x. (a -ℚ d) <ℚ x) (sym same) below) }
    by false e =
        let same : abs_ℚ a ≡ neg_ℚ a = abs_ℚ-neg a (lt_false _ _ e) in
        let below : (a +ℚ d) <ℚ zero_ℚ = less_by d (neg_ℚ a) (a +ℚ d) zero_ℚ (ring rational (a ∷ d ∷ []) (v 1 :- inv (v 0)) ((v 0 :+ v 1) :- num (pos 0)) refl) (subst (λ x. d <ℚ x) same q) in
        let closer : neg_ℚ (a +ℚ d) <ℚ neg_ℚ a = less_by zero_ℚ d (neg_ℚ (a +ℚ d)) (neg_ℚ a) (ring rational (a ∷ d ∷ []) (num (pos 0) :- v 1) (inv (v 0 :+ v 1) :- inv (v 0)) refl) p in
        record { some = <ℚ-≢' below; closer = subst (λ x. x <ℚ abs_ℚ a) (sym (abs_ℚ-neg (a +ℚ d) (<ℚ-≤ℚ below))) (subst (λ x. neg_ℚ (a +ℚ d) <ℚ x) (sym same) closer) }

pub shrinks : (p : Sparse) (i j : ℕ) → enabled p i j ≡ true → Shrinks p i j
shrinks p i j e = by (tightening_of p i j) refl (said (is_coefficient_tightening j) p i e).holds
  where
    told_smaller : (t : Tightening) → Tells j (sides_at p i).lower (sides_at p i).upper (spans_of p i) t → IsSmaller t.coefficient (new_coefficient t)
    told_smaller t x = subst (λ (y : Tightening). IsSmaller y.coefficient (new_coefficient y)) x.short.same (smaller (turned x.side x.span.value) x.gap x.short.positive x.short.below)

    by : (o : Option Tightening) → tightening_of p i j ≡ o → is_some o ≡ true → Shrinks p i j
    by None f h = absurd (not_true h)
    by (Some t) f h = let s = told_smaller t (tells j (sides_at p i).lower (sides_at p i).upper (spans_of p i) t f) in (t, f, s.some, s.closer)
