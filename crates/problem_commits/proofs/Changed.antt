-- Whether a part holds something else, and what is there.
use Rattle.std.proofs.Common.{◌≡◌, ◌↔◌, ℕ, ◌+◌, ◌<◌, ◌∷◌, drop, get_or, Bool, true, false, not, List, length, refl, sym, ap, ◌∙◌, subst}
use Rattle.std.specs.Prelude.{IsTrue, if◌then◌else◌}
use Rattle.std.specs.List.{All}
use Rattle.std.proofs.lemmas.List.{at_drop_more}
use Rattle.problem_model.specs.declared.part.Part.{Part}
use Rattle.problem_model.specs.declared.part.Part.TheVariants as part
use Rattle.problem_model.specs.declared.part.Contents.{Contents}
use Rattle.problem_model.specs.Raised.{risen, numbered_line, numbered_sides, numbered_bounds, numbered}
use Rattle.problem_model.specs.Sparse.{Sparse}
use Rattle.problem_laws.proofs.Numbering.{length-each_at}
use Rattle.edit_laws.proofs.SameContents.{is-same_contents, other-same_contents}
use Rattle.problem_data.specs.Renumbered.{number_put, changes_put, IsThere}
use Rattle.problem_commits.specs.declared.notes.Held.{Held}
use Rattle.problem_commits.specs.declared.notes.Held.TheVariants as held
use Rattle.problem_commits.specs.declared.notes.Note.{Note}
use Rattle.problem_commits.specs.Noting.{is_other, has_changed, raised_note, all_raised}

pub other_tested : (b : Bool) (kept : Held) (c d : Contents) → kept ≡ held.Whole c → (IsTrue b ↔ (d ≡ c)) → not b ≡ is_other kept d
other_tested true kept c d e t = sym (ap (λ (h : Held). is_other h d) e ∙ ap not (is-same_contents c d (sym (t.0 refl))))
other_tested false kept c d e t = sym (ap (λ (h : Held). is_other h d) e ∙ ap not (other-same_contents c d (λ f. let g = t.1 (sym f) in cc)))

-- new numbers leave each part in its place
there_numbered : (p : Sparse) (number : Part → ℕ) (a : Part) → IsThere p a → IsThere (numbered p number) a
there_numbered p number (part.Row i) l = subst (λ (n : ℕ). i < n) (sym (length-each_at (numbered_line (λ i. number (part.Row i))) 0 p.matrix.rows)) l
there_numbered p number (part.Sides i) l = subst (λ (n : ℕ). i < n) (sym (length-each_at (numbered_sides (λ i. number (part.Sides i))) 0 p.sides)) l
there_numbered p number (part.Col j) l = subst (λ (n : ℕ). j < n) (sym (length-each_at (numbered_line (λ j. number (part.Col j))) 0 p.matrix.columns)) l
there_numbered p number (part.Bounds j) l = subst (λ (n : ℕ). j < n) (sym (length-each_at (numbered_bounds (λ j. number (part.Bounds j))) 0 p.bounds)) l

there_raised : (p : Sparse) (n : Note) (a : Part) → IsThere p a → IsThere (raised_note p n) a
there_raised p n a l = by (has_changed p n)
  where
    by : (b : Bool) → IsThere (if b then changes_put p n.part (risen n.changes) else p) a
    by true = there_numbered p (number_put p n.part (risen n.changes)) a l
    by false = l

pub all_there : (p q : Sparse) (n : Note) (ns : List Note) → q ≡ raised_note p n → All (λ (m : Note). IsThere p m.part) ns → All (λ (m : Note). IsThere q m.part) ns
all_there p q n ns e h = λ i d l. subst (λ (x : Sparse). IsThere x (get_or ns i d).part) (sym e) (there_raised p n (get_or ns i d).part (h i d l))

-- one note more
pub raised_step : (q r : Sparse) (ns : List Note) (k : ℕ) (n : Note) → k < length ns → n ≡ get_or ns k n → r ≡ raised_note q n → all_raised r (drop (k + 1) ns) ≡ all_raised q (drop k ns)
raised_step q r ns k n l e h =
    ap (λ (x : Sparse). all_raised x (drop (k + 1) ns)) h
    ∙ sym (at_drop_more (all_raised q) ns k n l ∙ ap (λ (m : Note). all_raised q (m ∷ drop (k + 1) ns)) (sym e))
