-- K10, K11 and V3 rest on what is seen of the parts that they read.
use Rattle.std.proofs.Common.{◌≡◌, ℕ, Bool, true, false, not, ◌&&◌, ◌||◌, nat_eq, List, [], ◌∷◌, map, is_none, refl, sym, ap, ap₂, subst, true≢false}
use Rattle.std.specs.Prelude.{⊤}
use Rattle.fractions.specs.Number.{Number, zero_ℚ}
use Rattle.fractions.specs.Compare.{le_ℚ, lt_ℚ}
use Rattle.lp_model.specs.declared.terms.Term.{Term}
use Rattle.lp_model.specs.EndTests.{is_apart, is_in_order, is_place}
use Rattle.lp_model.specs.Sparse.{dense}
use Rattle.lp_model.specs.Vectors.{Vector}
use Rattle.problem_model.specs.declared.part.Contents.{Contents}
use Rattle.problem_model.specs.declared.part.Contents.TheVariants as holding
use Rattle.problem_model.specs.declared.part.Part.TheVariants as part
use Rattle.rule_words.specs.Reading.{sides_named, sides_of, terms_in}
use Rattle.dual_laws.specs.declared.form.Form.TheVariants.{NoEnds, Sides, Bounds}
use Rattle.dual_laws.specs.DominatedColumn as dominated_column
use Rattle.dual_laws.specs.DualFixing as fixed
use Rattle.dual_laws.specs.declared.form.Form.{Form}
use Rattle.dual_laws.specs.Forms.{EachLets, Gives, LetsByCost, LetsInPairs, line_of, Seen, seen}
use Rattle.std.proofs.lemmas.Bool.{and_parts}
use Rattle.dual_laws.specs.Locks.{all_take, are_uncrossed, is_uncrossed, takes_down, takes_up}
use Rattle.dual_laws.specs.UnboundedColumn as unbounded_column

-- what a function of contents says, by the entries that they hold
abbrev pub RestsOnLines : {X : Type 0} → (List Contents → X) → Type 0
RestsOnLines {X} f = (g : List Contents → X) × ((cs : List Contents) → f cs ≡ g (map line_of cs))

-- what a condition says of contents, by what is seen of them: where it holds, it holds too where each form lets it
pub record RestsOnSeen (R : Form → Form → Type 0) (f : List Contents → Bool) : Type 0 where
  pub by : List Seen → Bool
  pub is : (cs : List Contents) → f cs ≡ by (map seen cs)
  pub lets : (ss ts : List Seen) → EachLets R ss ts → by ss ≡ true → by ts ≡ true

-- both flags of two are given
both_given : (a b c d : Bool) → Gives a c → Gives b d → Gives (a && b) (c && d)
both_given a b c d f g h = let k = and_parts a b h in rw (f k.0) (g k.1)

either_given : (a b c d : Bool) → Gives a c → Gives b d → Gives (a || b) (c || d)
either_given true b c d f g h = rw (f refl) refl
either_given false b c d f g h = right (g h)
  where
    right : d ≡ true → (c || d) ≡ true
    right e = by c
      where
        by : (x : Bool) → (x || d) ≡ true
        by true = refl
        by false = e

same_given : (a : Bool) → Gives a a
same_given a h = h

-- ---- what forms of sides let
-- where the first form is that of sides, the second is, and lets what it lets
abbrev SidesLet : Form → Form → Type 0
SidesLet (Sides nl nu o) (Sides ml mu oo) = Gives nl ml × Gives nu mu × Gives o oo
SidesLet (Sides nl nu o) g = ⊥
SidesLet f g = ⊤

cost_sides : (f g : Form) → LetsByCost f g → SidesLet f g
cost_sides NoEnds g h = tt
cost_sides (Sides nl nu o) (Sides ml mu oo) h = h
cost_sides (Sides nl nu o) g h = absurd h
cost_sides (Bounds nl nu o apt lo hi w) g h = tt

pair_sides : (f g : Form) → LetsInPairs f g → SidesLet f g
pair_sides NoEnds g h = tt
pair_sides (Sides nl nu o) (Sides ml mu oo) h = h
pair_sides (Sides nl nu o) g h = absurd h
pair_sides (Bounds nl nu o apt lo hi w) g h = tt

abbrev EachSidesLet : List Seen → List Seen → Type 0
EachSidesLet [] [] = ⊤
EachSidesLet [] (t ∷ ts) = ⊥
EachSidesLet (s ∷ ss) [] = ⊥
EachSidesLet (s ∷ ss) (t ∷ ts) = SidesLet s.1 t.1 × EachSidesLet ss ts

each_sides : (R : Form → Form → Type 0) → ((f g : Form) → R f g → SidesLet f g) → (ss ts : List Seen) → EachLets R ss ts → EachSidesLet ss ts
each_sides R h [] [] k = tt
each_sides R h [] (t ∷ ts) k = k
each_sides R h (s ∷ ss) [] k = k
each_sides R h (s ∷ ss) (t ∷ ts) (k, l) = (h s.1 t.1 k.1, each_sides R h ss ts l)

no_flag : (b : Bool) → Gives false b
no_flag b h = absurd (true≢false (sym h))

-- ---- the sides of rows
abbrev uncrossed : Seen → Bool
uncrossed (x, Sides nl nu o) = o
uncrossed (x, f) = false

uncrossed_seen : (s : Contents) → is_uncrossed s ≡ uncrossed (seen s)
uncrossed_seen (holding.Sides l u) = refl
uncrossed_seen s = refl

abbrev all_uncrossed : List Seen → Bool
all_uncrossed [] = true
all_uncrossed (s ∷ ss) = uncrossed s && all_uncrossed ss

all_uncrossed_seen : (ss : List Contents) → are_uncrossed ss ≡ all_uncrossed (map seen ss)
all_uncrossed_seen [] = refl
all_uncrossed_seen (s ∷ ss) = ap₂ (λ (a b : Bool). a && b) (uncrossed_seen s) (all_uncrossed_seen ss)

uncrossed_lets : (s t : Seen) → SidesLet s.1 t.1 → Gives (uncrossed s) (uncrossed t)
uncrossed_lets (x, Sides nl nu o) (y, Sides ml mu oo) h = h.2
uncrossed_lets (x, Sides nl nu o) (y, g) h = absurd h
uncrossed_lets (x, f) t h = no_flag (uncrossed t)

all_uncrossed_lets : (ss ts : List Seen) → EachSidesLet ss ts → Gives (all_uncrossed ss) (all_uncrossed ts)
all_uncrossed_lets [] [] h = same_given true
all_uncrossed_lets [] (t ∷ ts) h = absurd h
all_uncrossed_lets (s ∷ ss) [] h = absurd h
all_uncrossed_lets (s ∷ ss) (t ∷ ts) (h, k) = both_given (uncrossed s) (all_uncrossed ss) (uncrossed t) (all_uncrossed ts) (uncrossed_lets s t h) (all_uncrossed_lets ss ts k)

abbrev down : Number → Seen → Bool
down a (x, Sides nl nu o) = (not (lt_ℚ zero_ℚ a) || nl) && (not (lt_ℚ a zero_ℚ) || nu)
down a (x, f) = false

down_seen : (a : Number) (s : Contents) → takes_down a s ≡ down a (seen s)
down_seen a (holding.Sides l u) = refl
down_seen a s = refl

-- one direction's two flags
two_given : (x y a b c d : Bool) → Gives a c → Gives b d → Gives ((x || a) && (y || b)) ((x || c) && (y || d))
two_given x y a b c d f g = both_given (x || a) (y || b) (x || c) (y || d) (either_given x a x c (same_given x) f) (either_given y b y d (same_given y) g)

down_lets : (a : Number) (s t : Seen) → SidesLet s.1 t.1 → Gives (down a s) (down a t)
down_lets a (x, Sides nl nu o) (y, Sides ml mu oo) h = two_given (not (lt_ℚ zero_ℚ a)) (not (lt_ℚ a zero_ℚ)) nl nu ml mu h.0 h.1
down_lets a (x, Sides nl nu o) (y, g) h = absurd h
down_lets a (x, f) t h = no_flag (down a t)

abbrev up : Number → Seen → Bool
up a (x, Sides nl nu o) = (not (lt_ℚ zero_ℚ a) || nu) && (not (lt_ℚ a zero_ℚ) || nl)
up a (x, f) = false

up_seen : (a : Number) (s : Contents) → takes_up a s ≡ up a (seen s)
up_seen a (holding.Sides l u) = refl
up_seen a s = refl

up_lets : (a : Number) (s t : Seen) → SidesLet s.1 t.1 → Gives (up a s) (up a t)
up_lets a (x, Sides nl nu o) (y, Sides ml mu oo) h = two_given (not (lt_ℚ zero_ℚ a)) (not (lt_ℚ a zero_ℚ)) nu nl mu ml h.1 h.0
up_lets a (x, Sides nl nu o) (y, g) h = absurd h
up_lets a (x, f) t h = no_flag (up a t)

abbrev all_go : (Number → Seen → Bool) → List Term → List Seen → Bool
all_go goes [] ss = true
all_go goes (t ∷ ts) [] = false
all_go goes (t ∷ ts) (s ∷ ss) = goes t.value s && all_go goes ts ss

all_go_seen : (takes : Number → Contents → Bool) (goes : Number → Seen → Bool) → ((a : Number) (s : Contents) → takes a s ≡ goes a (seen s))
    → (ts : List Term) (ss : List Contents) → all_take takes ts ss ≡ all_go goes ts (map seen ss)
all_go_seen takes goes h [] ss = refl
all_go_seen takes goes h (t ∷ ts) [] = refl
all_go_seen takes goes h (t ∷ ts) (s ∷ ss) = ap₂ (λ (a b : Bool). a && b) (h t.value s) (all_go_seen takes goes h ts ss)

all_go_lets : (goes : Number → Seen → Bool) → ((a : Number) (s t : Seen) → SidesLet s.1 t.1 → Gives (goes a s) (goes a t)) → (us : List Term) (ss ts : List Seen) → EachSidesLet ss ts → Gives (all_go goes us ss) (all_go goes us ts)
all_go_lets goes lets [] ss ts h = same_given true
all_go_lets goes lets (u ∷ us) [] ts h = no_flag (all_go goes (u ∷ us) ts)
all_go_lets goes lets (u ∷ us) (s ∷ ss) [] h = absurd h
all_go_lets goes lets (u ∷ us) (s ∷ ss) (t ∷ ts) (h, k) = both_given (goes u.value s) (all_go goes us ss) (goes u.value t) (all_go goes us ts) (lets u.value s t h) (all_go_lets goes lets us ss ts k)

-- ---- K10
abbrev fixed_seen : Seen → Seen → List Seen → Bool
fixed_seen (holding.Column ts c, f) (y, Bounds nl nu o apart lower upper w) ss =
    apart && (all_uncrossed ss && ((lower && (not (lt_ℚ c zero_ℚ) && all_go down ts ss)) || (upper && (not (lt_ℚ zero_ℚ c) && all_go up ts ss))))
fixed_seen a b ss = false

fixed_rests : (a b : Contents) (ss : List Contents) → fixed.is_dual_fixing a b ss ≡ fixed_seen (seen a) (seen b) (map seen ss)
fixed_rests (holding.Column ts c) (holding.Bounds l u w) ss = by (all_uncrossed_seen ss) (all_go_seen takes_down down down_seen ts ss) (all_go_seen takes_up up up_seen ts ss)
  where
    by : are_uncrossed ss ≡ all_uncrossed (map seen ss) → all_take takes_down ts ss ≡ all_go down ts (map seen ss) → all_take takes_up ts ss ≡ all_go up ts (map seen ss)
        → fixed.is_dual_fixing (holding.Column ts c) (holding.Bounds l u w) ss ≡ fixed_seen (seen (holding.Column ts c)) (seen (holding.Bounds l u w)) (map seen ss)
    by x y z = λ t. is_apart l u && (x t && ((is_place l w && (not (lt_ℚ c zero_ℚ) && y t)) || (is_place u w && (not (lt_ℚ zero_ℚ c) && z t))))
fixed_rests a b ss = refl

abbrev holds_fixed : List Seen → Bool
holds_fixed (a ∷ b ∷ ss) = fixed_seen a b ss
holds_fixed other = false

fixed_holds : (cs : List Contents) → fixed.holds cs ≡ holds_fixed (map seen cs)
fixed_holds (a ∷ b ∷ ss) = fixed_rests a b ss
fixed_holds (a ∷ []) = refl
fixed_holds [] = refl

fixed_lets : (x : Contents) (e f : Form) (b d : Seen) (ss ts : List Seen) → LetsByCost b.1 d.1 → EachSidesLet ss ts → Gives (fixed_seen (x, e) b ss) (fixed_seen (x, f) d ts)
fixed_lets (holding.Column us c) e f (y, Bounds nl nu o apt lo hi w) (z, Bounds ml mu oo aq lp uq v) ss ts h k =
    let down_too = all_go_lets down down_lets us ss ts k in
    let up_too = all_go_lets up up_lets us ss ts k in
    both_given apt _ aq _ h.3
    (both_given (all_uncrossed ss) _ (all_uncrossed ts) _ (all_uncrossed_lets ss ts k)
    (either_given _ _ _ _ (both_given lo _ lp _ h.4 (both_given _ (all_go down us ss) _ (all_go down us ts) (same_given (not (lt_ℚ c zero_ℚ))) down_too))
    (both_given hi _ uq _ h.5 (both_given _ (all_go up us ss) _ (all_go up us ts) (same_given (not (lt_ℚ zero_ℚ c))) up_too))))
fixed_lets (holding.Column us c) e f (y, Bounds nl nu o apt lo hi w) (z, g) ss ts h k = absurd h
fixed_lets x e f b d ss ts h k = no_flag (fixed_seen (x, f) d ts)

holds_fixed_lets : (ss ts : List Seen) → EachLets LetsByCost ss ts → holds_fixed ss ≡ true → holds_fixed ts ≡ true
holds_fixed_lets (a ∷ b ∷ ss) (c ∷ d ∷ ts) (h, (k, l)) e =
    subst (λ (x : Contents). fixed_seen (x, c.1) d ts ≡ true) h.0 (fixed_lets a.0 a.1 c.1 b d ss ts k.1 (each_sides LetsByCost cost_sides ss ts l) e)
holds_fixed_lets (a ∷ b ∷ ss) (c ∷ []) h e = absurd h.1
holds_fixed_lets (a ∷ b ∷ ss) [] h e = absurd h
holds_fixed_lets (a ∷ []) ts h e = absurd (true≢false (sym e))
holds_fixed_lets [] ts h e = absurd (true≢false (sym e))

pub dual_fixing_rests : RestsOnSeen LetsByCost fixed.holds
dual_fixing_rests = record { by = holds_fixed; is = fixed_holds; lets = holds_fixed_lets }

-- ---- V3
abbrev unbounded_column_seen : Seen → Seen → List Seen → Bool
unbounded_column_seen (holding.Column ts c, f) (y, Bounds nl nu o apart lower upper w) ss =
    o && (all_uncrossed ss && ((lt_ℚ c zero_ℚ && (nu && all_go up ts ss)) || (lt_ℚ zero_ℚ c && (nl && all_go down ts ss))))
unbounded_column_seen a b ss = false

unbounded_column_is : (a b : Contents) (ss : List Contents) → unbounded_column.is_unbounded_column a b ss ≡ unbounded_column_seen (seen a) (seen b) (map seen ss)
unbounded_column_is (holding.Column ts c) (holding.Bounds l u w) ss = by (all_uncrossed_seen ss) (all_go_seen takes_down down down_seen ts ss) (all_go_seen takes_up up up_seen ts ss)
  where
    by : are_uncrossed ss ≡ all_uncrossed (map seen ss) → all_take takes_down ts ss ≡ all_go down ts (map seen ss) → all_take takes_up ts ss ≡ all_go up ts (map seen ss)
        → unbounded_column.is_unbounded_column (holding.Column ts c) (holding.Bounds l u w) ss ≡ unbounded_column_seen (seen (holding.Column ts c)) (seen (holding.Bounds l u w)) (map seen ss)
    by x y z = λ t. is_in_order l u && (x t && ((lt_ℚ c zero_ℚ && (is_none u && z t)) || (lt_ℚ zero_ℚ c && (is_none l && y t))))
unbounded_column_is a b ss = refl

abbrev holds_unbounded_column : List Seen → Bool
holds_unbounded_column (a ∷ b ∷ ss) = unbounded_column_seen a b ss
holds_unbounded_column other = false

unbounded_column_holds : (cs : List Contents) → unbounded_column.holds cs ≡ holds_unbounded_column (map seen cs)
unbounded_column_holds (a ∷ b ∷ ss) = unbounded_column_is a b ss
unbounded_column_holds (a ∷ []) = refl
unbounded_column_holds [] = refl

unbounded_column_lets : (x : Contents) (e f : Form) (b d : Seen) (ss ts : List Seen) → LetsByCost b.1 d.1 → EachSidesLet ss ts → Gives (unbounded_column_seen (x, e) b ss) (unbounded_column_seen (x, f) d ts)
unbounded_column_lets (holding.Column us c) e f (y, Bounds nl nu o apt lo hi w) (z, Bounds ml mu oo aq lp uq v) ss ts h k =
    both_given o _ oo _ h.2
    (both_given (all_uncrossed ss) _ (all_uncrossed ts) _ (all_uncrossed_lets ss ts k)
    (either_given _ _ _ _ (both_given _ _ _ _ (same_given (lt_ℚ c zero_ℚ)) (both_given nu _ mu _ h.1 (all_go_lets up up_lets us ss ts k)))
    (both_given _ _ _ _ (same_given (lt_ℚ zero_ℚ c)) (both_given nl _ ml _ h.0 (all_go_lets down down_lets us ss ts k)))))
unbounded_column_lets (holding.Column us c) e f (y, Bounds nl nu o apt lo hi w) (z, g) ss ts h k = absurd h
unbounded_column_lets x e f b d ss ts h k = no_flag (unbounded_column_seen (x, f) d ts)

holds_unbounded_column_lets : (ss ts : List Seen) → EachLets LetsByCost ss ts → holds_unbounded_column ss ≡ true → holds_unbounded_column ts ≡ true
holds_unbounded_column_lets (a ∷ b ∷ ss) (c ∷ d ∷ ts) (h, (k, l)) e =
    subst (λ (x : Contents). unbounded_column_seen (x, c.1) d ts ≡ true) h.0 (unbounded_column_lets a.0 a.1 c.1 b d ss ts k.1 (each_sides LetsByCost cost_sides ss ts l) e)
holds_unbounded_column_lets (a ∷ b ∷ ss) (c ∷ []) h e = absurd h.1
holds_unbounded_column_lets (a ∷ b ∷ ss) [] h e = absurd h
holds_unbounded_column_lets (a ∷ []) ts h e = absurd (true≢false (sym e))
holds_unbounded_column_lets [] ts h e = absurd (true≢false (sym e))

pub unbounded_column_rests : RestsOnSeen LetsByCost unbounded_column.holds
unbounded_column_rests = record { by = holds_unbounded_column; is = unbounded_column_holds; lets = holds_unbounded_column_lets }

-- ---- the sides that both read
terms_rest : (c : Contents) → terms_in c ≡ terms_in (line_of c)
terms_rest holding.Gone = refl
terms_rest (holding.Entries ts) = refl
terms_rest (holding.Sides l u) = refl
terms_rest (holding.Column ts c) = refl
terms_rest (holding.Bounds l u w) = refl
terms_rest (holding.Semi l u w) = refl

named_rests : (cs : List Contents) → sides_named cs ≡ sides_named (map line_of cs)
named_rests [] = refl
named_rests (c ∷ cs) = ap sides_of (terms_rest c)

pub sides_named_rest : RestsOnLines sides_named
sides_named_rest = (sides_named, named_rests)

-- ---- K11
both_rest : (cs : List Contents) → dominated_column.more cs ≡ dominated_column.more (map line_of cs)
both_rest (row ∷ j ∷ k ∷ others) = ap₂ (λ (ts us : List Term). map part.Sides (dominated_column.rows_of_both ts us)) (terms_rest j) (terms_rest k)
both_rest (row ∷ j ∷ []) = refl
both_rest (row ∷ []) = refl
both_rest [] = refl

pub dominated_column_more_rests : RestsOnLines dominated_column.more
dominated_column_more_rests = (dominated_column.more, both_rest)

abbrev over : Number → Number → Seen → Bool
over a b (x, Sides nl nu o) = (nu || le_ℚ a b) && (nl || le_ℚ b a)
over a b (x, f) = false

over_seen : (a b : Number) (s : Contents) → dominated_column.takes_over a b s ≡ over a b (seen s)
over_seen a b (holding.Sides l u) = refl
over_seen a b s = refl

abbrev all_over : Vector → Vector → List ℕ → List Seen → Bool
all_over a b [] ss = true
all_over a b (i ∷ is) [] = false
all_over a b (i ∷ is) (s ∷ ss) = over (a i) (b i) s && all_over a b is ss

all_over_seen : (a b : Vector) (is : List ℕ) (ss : List Contents) → dominated_column.all_take_over a b is ss ≡ all_over a b is (map seen ss)
all_over_seen a b [] ss = refl
all_over_seen a b (i ∷ is) [] = refl
all_over_seen a b (i ∷ is) (s ∷ ss) = ap₂ (λ (x y : Bool). x && y) (over_seen (a i) (b i) s) (all_over_seen a b is ss)

over_lets : (a b : Number) (s t : Seen) → SidesLet s.1 t.1 → Gives (over a b s) (over a b t)
over_lets a b (x, Sides nl nu o) (y, Sides ml mu oo) h =
    both_given _ _ _ _ (either_given nu _ mu _ h.1 (same_given (le_ℚ a b))) (either_given nl _ ml _ h.0 (same_given (le_ℚ b a)))
over_lets a b (x, Sides nl nu o) (y, g) h = absurd h
over_lets a b (x, f) t h = no_flag (over a b t)

all_over_lets : (a b : Vector) (is : List ℕ) (ss ts : List Seen) → EachSidesLet ss ts → Gives (all_over a b is ss) (all_over a b is ts)
all_over_lets a b [] ss ts h = same_given true
all_over_lets a b (i ∷ is) [] ts h = no_flag (all_over a b (i ∷ is) ts)
all_over_lets a b (i ∷ is) (s ∷ ss) [] h = absurd h
all_over_lets a b (i ∷ is) (s ∷ ss) (t ∷ ts) (h, k) = both_given (over (a i) (b i) s) (all_over a b is ss) (over (a i) (b i) t) (all_over a b is ts) (over_lets (a i) (b i) s t h) (all_over_lets a b is ss ts k)

abbrev dominated_column_seen : Seen → Seen → Seen → Seen → Seen → List Seen → ℕ → ℕ → Bool
dominated_column_seen (holding.Entries row, e) (holding.Column ts c, f) (holding.Column us d, g) (y, Bounds nl nu o apart lower upper w) (z, Bounds ml mu oo apart_too lower_too upper_too x) ss j k =
    not (nat_eq j k) && (dominated_column.share row j k && (nu && (apart_too && (lower_too && (le_ℚ c d && ((not w || x) && (all_uncrossed ss && all_over (dense ts) (dense us) (dominated_column.rows_of_both ts us) ss)))))))
dominated_column_seen a b c d e ss j k = false

dominated_column_is : (a b c d e : Contents) (ss : List Contents) (j k : ℕ) → dominated_column.is_dominated_column a b c d e ss j k ≡ dominated_column_seen (seen a) (seen b) (seen c) (seen d) (seen e) (map seen ss) j k
dominated_column_is (holding.Entries row) (holding.Column ts c) (holding.Column us d) (holding.Bounds l u w) (holding.Bounds m v x) ss j k = by (all_uncrossed_seen ss) (all_over_seen (dense ts) (dense us) (dominated_column.rows_of_both ts us) ss)
  where
    by : are_uncrossed ss ≡ all_uncrossed (map seen ss) → dominated_column.all_take_over (dense ts) (dense us) (dominated_column.rows_of_both ts us) ss ≡ all_over (dense ts) (dense us) (dominated_column.rows_of_both ts us) (map seen ss)
        → dominated_column.is_dominated_column (holding.Entries row) (holding.Column ts c) (holding.Column us d) (holding.Bounds l u w) (holding.Bounds m v x) ss j k
        ≡ dominated_column_seen (seen (holding.Entries row)) (seen (holding.Column ts c)) (seen (holding.Column us d)) (seen (holding.Bounds l u w)) (seen (holding.Bounds m v x)) (map seen ss) j k
    by y z = λ t. not (nat_eq j k) && (dominated_column.share row j k && (is_none u && (is_apart m v && (is_place m x && (le_ℚ c d && ((not w || x) && (y t && z t)))))))
dominated_column_is a b c d e ss j k = refl

abbrev holds_dominated_column : ℕ → ℕ → List Seen → Bool
holds_dominated_column j k (a ∷ b ∷ c ∷ d ∷ e ∷ ss) = dominated_column_seen a b c d e ss j k
holds_dominated_column j k other = false

dominated_column_holds : (j k : ℕ) (cs : List Contents) → dominated_column.holds j k cs ≡ holds_dominated_column j k (map seen cs)
dominated_column_holds j k (a ∷ b ∷ c ∷ d ∷ e ∷ ss) = dominated_column_is a b c d e ss j k
dominated_column_holds j k (a ∷ b ∷ c ∷ d ∷ []) = refl
dominated_column_holds j k (a ∷ b ∷ c ∷ []) = refl
dominated_column_holds j k (a ∷ b ∷ []) = refl
dominated_column_holds j k (a ∷ []) = refl
dominated_column_holds j k [] = refl

dominated_column_lets : (x y z : Contents) (d e f d' e' f' : Form) (m n m' n' : Seen) (ss ts : List Seen) (j k : ℕ) → LetsInPairs m.1 m'.1 → LetsInPairs n.1 n'.1 → EachSidesLet ss ts
    → Gives (dominated_column_seen (x, d) (y, e) (z, f) m n ss j k) (dominated_column_seen (x, d') (y, e') (z, f') m' n' ts j k)
dominated_column_lets (holding.Entries row) (holding.Column us c) (holding.Column vs g) d e f d' e' f' (p, Bounds nl nu o apt lo hi w) (q, Bounds ml mu oo aq lp uq x) (p', Bounds nl' nu' o' apt' lo' hi' w') (q', Bounds ml' mu' oo' aq' lp' uq' x') ss ts j k h l sides =
    both_given _ _ _ _ (same_given (not (nat_eq j k))) (both_given _ _ _ _ (same_given (dominated_column.share row j k)) (both_given nu _ nu' _ h.0 (both_given aq _ aq' _ l.1 (both_given lp _ lp' _ l.2
    (both_given _ _ _ _ (same_given (le_ℚ c g)) (both_given (not w || x) _ (not w' || x') _ (λ t. subst (λ (v : Bool). (not w' || v) ≡ true) l.3 (subst (λ (v : Bool). (not v || x) ≡ true) h.3 t))
    (both_given (all_uncrossed ss) _ (all_uncrossed ts) _ (all_uncrossed_lets ss ts sides) (all_over_lets (dense us) (dense vs) (dominated_column.rows_of_both us vs) ss ts sides))))))))
dominated_column_lets (holding.Entries row) (holding.Column us c) (holding.Column vs g) d e f d' e' f' (p, Bounds nl nu o apt lo hi w) (q, Bounds ml mu oo aq lp uq x) (p', Bounds nl' nu' o' apt' lo' hi' w') (q', b) ss ts j k h l sides = absurd l
dominated_column_lets (holding.Entries row) (holding.Column us c) (holding.Column vs g) d e f d' e' f' (p, Bounds nl nu o apt lo hi w) (q, Bounds ml mu oo aq lp uq x) (p', a) n' ss ts j k h l sides = absurd h
dominated_column_lets x y z d e f d' e' f' m n m' n' ss ts j k h l sides = no_flag (dominated_column_seen (x, d') (y, e') (z, f') m' n' ts j k)

holds_dominated_column_lets : (j k : ℕ) (ss ts : List Seen) → EachLets LetsInPairs ss ts → holds_dominated_column j k ss ≡ true → holds_dominated_column j k ts ≡ true
holds_dominated_column_lets j k (a ∷ b ∷ c ∷ d ∷ e ∷ ss) (a' ∷ b' ∷ c' ∷ d' ∷ e' ∷ ts) (ha, (hb, (hc, (hd, (he, l))))) t =
    let keep = dominated_column_lets a.0 b.0 c.0 a.1 b.1 c.1 a'.1 b'.1 c'.1 d e d' e' ss ts j k hd.1 he.1 (each_sides LetsInPairs pair_sides ss ts l) in
    subst (λ (z : Contents). dominated_column_seen a' b' (z, c'.1) d' e' ts j k ≡ true) hc.0
    (subst (λ (y : Contents). dominated_column_seen a' (y, b'.1) (c.0, c'.1) d' e' ts j k ≡ true) hb.0 (subst (λ (x : Contents). dominated_column_seen (x, a'.1) (b.0, b'.1) (c.0, c'.1) d' e' ts j k ≡ true) ha.0 (keep t)))
holds_dominated_column_lets j k (a ∷ b ∷ c ∷ d ∷ e ∷ ss) (a' ∷ b' ∷ c' ∷ d' ∷ []) (ha, (hb, (hc, (hd, h)))) t = absurd h
holds_dominated_column_lets j k (a ∷ b ∷ c ∷ d ∷ e ∷ ss) (a' ∷ b' ∷ c' ∷ []) (ha, (hb, (hc, h))) t = absurd h
holds_dominated_column_lets j k (a ∷ b ∷ c ∷ d ∷ e ∷ ss) (a' ∷ b' ∷ []) (ha, (hb, h)) t = absurd h
holds_dominated_column_lets j k (a ∷ b ∷ c ∷ d ∷ e ∷ ss) (a' ∷ []) (ha, h) t = absurd h
holds_dominated_column_lets j k (a ∷ b ∷ c ∷ d ∷ e ∷ ss) [] h t = absurd h
holds_dominated_column_lets j k (a ∷ b ∷ c ∷ d ∷ []) ts h t = absurd (true≢false (sym t))
holds_dominated_column_lets j k (a ∷ b ∷ c ∷ []) ts h t = absurd (true≢false (sym t))
holds_dominated_column_lets j k (a ∷ b ∷ []) ts h t = absurd (true≢false (sym t))
holds_dominated_column_lets j k (a ∷ []) ts h t = absurd (true≢false (sym t))
holds_dominated_column_lets j k [] ts h t = absurd (true≢false (sym t))

pub dominated_column_rests : (j k : ℕ) → RestsOnSeen LetsInPairs (dominated_column.holds j k)
dominated_column_rests j k = record { by = holds_dominated_column j k; is = dominated_column_holds j k; lets = holds_dominated_column_lets j k }
