-- How often parts have changed after a commit. The number of a part rises by one where the commit changed what the part holds, however
-- many edits touched it; at the end of its type it stands still.
use Rattle.std.specs.Prelude.{ℕ, suc, ◌+◌, ◌-◌, ◌^◌, min, nat_eq, Bool, true, false, not, ◌&&◌, List, [], ◌∷◌, Option, if◌then◌else◌}
use Rattle.fractions.specs.Number.{Number}
use Rattle.fractions.specs.Compare.{eq_ℚ}
use Rattle.fractions.specs.Ends.{same_end}
use Rattle.lp_model.specs.declared.terms.Term.{Term}
use Rattle.problem_model.specs.declared.edit.Edit.{Edit}
use Rattle.problem_model.specs.declared.line.Line.{Line}
use Rattle.problem_model.specs.declared.line.Sides.{Sides}
use Rattle.problem_model.specs.declared.line.Bounds.{Bounds}
use Rattle.problem_model.specs.declared.part.Part.{Part}
use Rattle.problem_model.specs.declared.part.Part.TheVariants as part
use Rattle.problem_model.specs.declared.part.Contents.{Contents}
use Rattle.problem_model.specs.declared.part.Contents.TheVariants as holds
use Rattle.problem_model.specs.Applied.{applied}
use Rattle.problem_model.specs.Parts.{contents_of, changes_of}
use Rattle.problem_model.specs.Sparse.{Sparse}

-- one change more
abbrev pub risen : ℕ → ℕ
risen n = min (n + 1) (2 ^ 64 - 1)

-- ---- whether two contents are the same
abbrev pub same_terms : List Term → List Term → Bool
same_terms [] [] = true
same_terms [] (u ∷ us) = false
same_terms (t ∷ ts) [] = false
same_terms (t ∷ ts) (u ∷ us) = nat_eq t.id u.id && (eq_ℚ t.value u.value && same_terms ts us)

abbrev pub same_bit : Bool → Bool → Bool
same_bit true b = b
same_bit false b = not b

abbrev pub is_gone : Contents → Bool
is_gone holds.Gone = true
is_gone (holds.Entries ts) = false
is_gone (holds.Sides l u) = false
is_gone (holds.Column ts c) = false
is_gone (holds.Bounds l u w) = false
is_gone (holds.Semi l u w) = false

abbrev pub has_entries : List Term → Contents → Bool
has_entries ts (holds.Entries us) = same_terms ts us
has_entries ts holds.Gone = false
has_entries ts (holds.Sides l u) = false
has_entries ts (holds.Column us c) = false
has_entries ts (holds.Bounds l u w) = false
has_entries ts (holds.Semi l u w) = false

abbrev pub has_sides : Option Number → Option Number → Contents → Bool
has_sides l u (holds.Sides m v) = same_end l m && same_end u v
has_sides l u holds.Gone = false
has_sides l u (holds.Entries ts) = false
has_sides l u (holds.Column ts c) = false
has_sides l u (holds.Bounds m v w) = false
has_sides l u (holds.Semi m v w) = false

abbrev pub has_column : List Term → Number → Contents → Bool
has_column ts c (holds.Column us d) = same_terms ts us && eq_ℚ c d
has_column ts c holds.Gone = false
has_column ts c (holds.Entries us) = false
has_column ts c (holds.Sides l u) = false
has_column ts c (holds.Bounds l u w) = false
has_column ts c (holds.Semi l u w) = false

abbrev pub has_bounds : Option Number → Option Number → Bool → Contents → Bool
has_bounds l u w (holds.Bounds m v x) = same_end l m && (same_end u v && same_bit w x)
has_bounds l u w holds.Gone = false
has_bounds l u w (holds.Entries ts) = false
has_bounds l u w (holds.Sides m v) = false
has_bounds l u w (holds.Column ts c) = false
has_bounds l u w (holds.Semi m v x) = false

abbrev pub has_semi : Option Number → Option Number → Bool → Contents → Bool
has_semi l u w (holds.Semi m v x) = same_end l m && (same_end u v && same_bit w x)
has_semi l u w holds.Gone = false
has_semi l u w (holds.Entries ts) = false
has_semi l u w (holds.Sides m v) = false
has_semi l u w (holds.Column ts c) = false
has_semi l u w (holds.Bounds m v x) = false

abbrev pub same_contents : Contents → Contents → Bool
same_contents holds.Gone d = is_gone d
same_contents (holds.Entries ts) d = has_entries ts d
same_contents (holds.Sides l u) d = has_sides l u d
same_contents (holds.Column ts c) d = has_column ts c d
same_contents (holds.Bounds l u w) d = has_bounds l u w d
same_contents (holds.Semi l u w) d = has_semi l u w d

-- ---- numbers after a commit
-- how often a part has changed where p was before and q is after
abbrev pub changes_after : Sparse → Sparse → Part → ℕ
changes_after p q a = if same_contents (contents_of p a) (contents_of q a) then changes_of p a else risen (changes_of p a)

-- each of a list, the first of which stands at k, put through f with its place
abbrev pub each_at : {X : Type 0} → (ℕ → X → X) → ℕ → List X → List X
each_at f k [] = []
each_at f k (x ∷ xs) = f k x ∷ each_at f (suc k) xs

abbrev pub numbered_line : (ℕ → ℕ) → ℕ → Line → Line
numbered_line number k l = record l { changes = number k }

abbrev pub numbered_sides : (ℕ → ℕ) → ℕ → Sides → Sides
numbered_sides number k s = record s { changes = number k }

abbrev pub numbered_bounds : (ℕ → ℕ) → ℕ → Bounds → Bounds
numbered_bounds number k b = record b { changes = number k }

-- q with a number of changes for each part
abbrev pub numbered : Sparse → (Part → ℕ) → Sparse
numbered q number = record q {
  matrix = record {
    rows = each_at (numbered_line (λ i. number (part.Row i))) 0 q.matrix.rows;
    columns = each_at (numbered_line (λ j. number (part.Col j))) 0 q.matrix.columns;
  };
  sides = each_at (numbered_sides (λ i. number (part.Sides i))) 0 q.sides;
  bounds = each_at (numbered_bounds (λ j. number (part.Bounds j))) 0 q.bounds;
}

-- q, with the numbers of p risen where q holds something else
abbrev pub raised : Sparse → Sparse → Sparse
raised p q = numbered q (changes_after p q)

-- the problem after a commit of edits
abbrev pub committed : Sparse → List Edit → Sparse
committed p es = raised p (applied p es)
