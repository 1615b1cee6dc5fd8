-- The forms of the ends of a problem's rows and columns, kept while it changes; and parts of which something else is seen.
use Rattle.std.specs.Prelude.{◌≡◌, ◌⊎◌, Bool, true, false, not, ◌&&◌, List, [], ◌∷◌, ◌++◌, length, map, slice_index_or, slice_set}
use Rattle.std.specs.List.{range_with_len}
use Rattle.problem_model.specs.declared.part.Part.{Part}
use Rattle.problem_model.specs.declared.part.Part.TheVariants as part
use Rattle.problem_model.specs.Parts.{contents_of}
use Rattle.problem_model.specs.Sparse.{Sparse}
use Rattle.dual_laws.specs.declared.form.Form.{Form}
use Rattle.dual_laws.specs.declared.form.Form.TheVariants.{NoEnds, Sides, Bounds}
use Rattle.dual_laws.specs.Forms.{form_of}

-- of the sides by row, and of the bounds by column
pub record Formed : Type 0 where
  pub sides : List Form
  pub bounds : List Form

abbrev pub form_at : Formed → Part → Form
form_at f (part.Row i) = NoEnds
form_at f (part.Sides i) = slice_index_or f.sides i NoEnds
form_at f (part.Col j) = NoEnds
form_at f (part.Bounds j) = slice_index_or f.bounds j NoEnds

abbrev pub form_put : Formed → Part → Form → Formed
form_put f (part.Row i) x = f
form_put f (part.Sides i) x = record f { sides = slice_set f.sides i x }
form_put f (part.Col j) x = f
form_put f (part.Bounds j) x = record f { bounds = slice_set f.bounds j x }

-- the form of what a part of a problem holds
abbrev pub form_on : Sparse → Part → Form
form_on p a = form_of (contents_of p a)

-- those of a problem
abbrev pub forms_of : Sparse → Formed
forms_of p = record {
  sides = map (λ i. form_on p (part.Sides i)) (range_with_len 0 (length p.matrix.rows));
  bounds = map (λ j. form_on p (part.Bounds j)) (range_with_len 0 (length p.matrix.columns));
}

-- they tell the form of each part of a problem
pub record AreFormsOf (f : Formed) (p : Sparse) : Type 0 where
  pub tell : (a : Part) → form_at f a ≡ form_on p a
  pub sides : length f.sides ≡ length p.matrix.rows
  pub bounds : length f.bounds ≡ length p.matrix.columns

-- ---- tests of two forms
abbrev pub FormTest : Type 0
FormTest = Form → Form → Bool

-- a flag that is up in the first is up in the second
abbrev pub gives : Bool → Bool → Bool
gives true b = b
gives false b = true

abbrev pub same_flag : Bool → Bool → Bool
same_flag true b = b
same_flag false b = not b

-- the second lets what the first lets: rules that look at columns
abbrev pub lets_by_cost : FormTest
lets_by_cost NoEnds NoEnds = true
lets_by_cost (Sides nl nu o) (Sides ml mu oo) = gives nl ml && (gives nu mu && gives o oo)
lets_by_cost (Bounds nl nu o apart lower upper w) (Bounds ml mu oo apart_too lower_too upper_too x) =
    gives nl ml && (gives nu mu && (gives o oo && (gives apart apart_too && (gives lower lower_too && gives upper upper_too))))
lets_by_cost f g = false

-- and those that look at pairs of columns of a row
abbrev pub lets_in_pairs : FormTest
lets_in_pairs NoEnds NoEnds = true
lets_in_pairs (Sides nl nu o) (Sides ml mu oo) = gives nl ml && (gives nu mu && gives o oo)
lets_in_pairs (Bounds nl nu o apart lower upper w) (Bounds ml mu oo apart_too lower_too upper_too x) = gives nu mu && (gives apart apart_too && (gives lower lower_too && same_flag w x))
lets_in_pairs f g = false

-- a part is of ends whose form lets no more than it did
abbrev pub keeps : FormTest → Formed → Sparse → Part → Bool
keeps test f p (part.Row i) = false
keeps test f p (part.Sides i) = test (form_on p (part.Sides i)) (form_at f (part.Sides i))
keeps test f p (part.Col j) = false
keeps test f p (part.Bounds j) = test (form_on p (part.Bounds j)) (form_at f (part.Bounds j))

-- such a part leaves what is stirred as it is; any other is stirred
abbrev pub StirsOne : FormTest → Formed → Sparse → Part → List Part → List Part → Type 0
StirsOne test f p a n m = ((keeps test f p a ≡ true) × (m ≡ n)) ⊎ ((keeps test f p a ≡ false) × (m ≡ n ++ a ∷ []))

-- parts that have changed, each in turn: what is stirred then, and the forms, put right
abbrev pub Stirs : FormTest → Formed → Sparse → List Part → List Part → List Part → Type 0
Stirs test f p [] n m = m ≡ n
Stirs test f p (a ∷ ps) n m = (k : List Part) × StirsOne test f p a n k × Stirs test (form_put f a (form_on p a)) p ps k m

abbrev pub reformed : Formed → Sparse → List Part → Formed
reformed f p [] = f
reformed f p (a ∷ ps) = reformed (form_put f a (form_on p a)) p ps
