-- What is seen of a part where of its ends only their form counts.
use Rattle.std.specs.Prelude.{◌≡◌, Bool, true, ⊤, List, [], ◌∷◌, is_none}
use Rattle.lp_model.specs.EndTests.{is_apart, is_in_order, is_place}
use Rattle.problem_model.specs.declared.part.Contents.{Contents}
use Rattle.problem_model.specs.declared.part.Contents.TheVariants as holding
use Rattle.problem_model.specs.declared.part.Part.{Part}
use Rattle.problem_model.specs.Parts.{contents_of}
use Rattle.problem_model.specs.Sparse.{Sparse}
use Rattle.dual_laws.specs.declared.form.Form.{Form}
use Rattle.dual_laws.specs.declared.form.Form.TheVariants.{NoEnds, Sides, Bounds}

-- the form of the ends that a part holds
abbrev pub form_of : Contents → Form
form_of (holding.Sides l u) = Sides (is_none l) (is_none u) (is_in_order l u)
form_of (holding.Bounds l u w) = Bounds (is_none l) (is_none u) (is_in_order l u) (is_apart l u) (is_place l w) (is_place u w) w
form_of other = NoEnds

-- the entries that it holds, and the cost with them
abbrev pub line_of : Contents → Contents
line_of (holding.Entries ts) = holding.Entries ts
line_of (holding.Column ts c) = holding.Column ts c
line_of other = holding.Gone

-- both are seen
abbrev pub Seen : Type 0
Seen = Contents × Form

abbrev pub seen : Contents → Seen
seen c = (line_of c, form_of c)

abbrev pub seen_at : Sparse → Part → Seen
seen_at p a = seen (contents_of p a)

-- ---- what of a form lets a rule apply that another one doesn't
-- a flag that is up in the first is up in the second
abbrev pub Gives : Bool → Bool → Type 0
Gives a b = a ≡ true → b ≡ true

-- for K10 and V3: of sides which are infinite, and that they are in order; of bounds too, that they are apart, and where the column can be fixed
abbrev pub LetsByCost : Form → Form → Type 0
LetsByCost NoEnds NoEnds = ⊤
LetsByCost (Sides nl nu o) (Sides ml mu oo) = Gives nl ml × Gives nu mu × Gives o oo
LetsByCost (Bounds nl nu o ap lo up w) (Bounds ml mu oo aq lp uq x) = Gives nl ml × Gives nu mu × Gives o oo × Gives ap aq × Gives lo lp × Gives up uq
LetsByCost f g = ⊥

-- for K11: of sides the same; of bounds that there is no upper one, that they are apart, and that the column can be fixed at the lower one; a
-- column stays whole or not
abbrev pub LetsInPairs : Form → Form → Type 0
LetsInPairs NoEnds NoEnds = ⊤
LetsInPairs (Sides nl nu o) (Sides ml mu oo) = Gives nl ml × Gives nu mu × Gives o oo
LetsInPairs (Bounds nl nu o ap lo up w) (Bounds ml mu oo aq lp uq x) = Gives nu mu × Gives ap aq × Gives lo lp × (w ≡ x)
LetsInPairs f g = ⊥

-- the entries are the same, and the form lets it
abbrev pub Lets : (Form → Form → Type 0) → Seen → Seen → Type 0
Lets R s t = (s.0 ≡ t.0) × R s.1 t.1

abbrev pub EachLets : (Form → Form → Type 0) → List Seen → List Seen → Type 0
EachLets R [] [] = ⊤
EachLets R [] (t ∷ ts) = ⊥
EachLets R (s ∷ ss) [] = ⊥
EachLets R (s ∷ ss) (t ∷ ts) = Lets R s t × EachLets R ss ts
