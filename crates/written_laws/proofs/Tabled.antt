-- What the tables say at other ids, with no case: an instance is enabled, and can be applied, at its new ids where it is at its old ones.
use Rattle.std.proofs.Common.{◌≡◌, ◌↔◌, ℕ, ◌<◌, true, List, ◌++◌, get_or, length, map, sym, ap, ap₂, ◌∙◌, subst, arith}
use Rattle.std.specs.List.{All}
use Rattle.std.proofs.lemmas.List.{map-append}
use Rattle.std.proofs.lemmas.List.Elements.{All-append, All-map}
use Rattle.fractions.specs.declared.Numbers.{Numbers}
use Rattle.problem_model.specs.declared.part.Contents.{Contents}
use Rattle.problem_model.specs.declared.part.Part.{Part}
use Rattle.problem_model.specs.declared.part.Part.TheVariants.{Row, Sides, Col, Bounds}
use Rattle.problem_model.specs.NewNumbers.{EditsAreWritten, EditsFit}
use Rattle.problem_model.specs.Parts.{contents_of}
use Rattle.problem_model.specs.Programs.{live_ids}
use Rattle.problem_model.specs.Sparse.{Sparse}
use Rattle.problem_laws.proofs.AtIds.{column_inside, row_inside}
use Rattle.program_laws.proofs.Ranks.{id_live, id_rank}
use Rattle.rule_words.specs.Reading.{found_on, parts_on}
use Rattle.presolve_model.specs.declared.instance.Instance.{Instance}
use Rattle.presolve_model.specs.declared.instance.Instance.TheVariants as at
use Rattle.presolve_model.specs.declared.instance.Reduction.{Reduction}
use Rattle.presolve_model.specs.Enabled.{enabled_on, reads}
use Rattle.presolve_model.specs.Replay.{CanApply}
use Rattle.presolve_model.specs.Tables.{edits, heads, heads_of, holds, more}
use Rattle.written_ids.specs.NewIds.{Ids, new_ids}
use Rattle.written_ids.specs.Standing.{AreOneToOne, IsLeft, LinesStand}
use Rattle.written_ids.proofs.EditsAtIds.{edits_fit, edits_written}
use Rattle.written_ids.proofs.Lists.{all_first}
use Rattle.written_ids.proofs.NewIds.{contents_at, old_ids, part_at}
use Rattle.written_ids.proofs.Standing.{AreThere, IsThere, all_stand}
use Rattle.written_laws.proofs.ByCases.{ComesBack, beside, computes_stand, edits_stand, instance_at, own, own_of, reduction_at, reduction_back, reduction_beside, reduction_heads, reduction_holds, reduction_more, reduction_names, reduction_there, verdict_back, verdict_heads, verdict_holds, verdict_more, verdict_names, verdict_there}

-- ---- of instances
heads_at : (n : Ids) (e : Instance) → heads (instance_at n e) ≡ map (part_at n) (heads e)
heads_at n (at.Reduction r) = reduction_heads n r
heads_at n (at.Verdict v) = verdict_heads n v

own_at : (n : Ids) (e : Instance) → own (instance_at n e) ≡ map (part_at n) (own e)
own_at n (at.Reduction r) = ap₂ ◌++◌ (reduction_heads n r) (reduction_beside n r) ∙ sym (map-append (part_at n) (heads_of r) (beside r))
own_at n (at.Verdict v) = verdict_heads n v

heads_there : (p : Sparse) (e : Instance) → AreThere p (own e) → AreThere p (heads e)
heads_there p (at.Reduction r) h = all_first (IsThere p) (heads_of r) (beside r) h
heads_there p (at.Verdict v) h = h

more_at : (n : Ids) (p : Sparse) → AreOneToOne n p → (e : Instance) → more (instance_at n e) (map (contents_at n) (map (contents_of p) (heads e))) ≡ map (part_at n) (more e (map (contents_of p) (heads e)))
more_at n p o (at.Reduction r) = reduction_more n p o r
more_at n p o (at.Verdict v) = verdict_more n p o v

names_there : (p : Sparse) (e : Instance) → AreThere p (more e (map (contents_of p) (heads e)))
names_there p (at.Reduction r) = reduction_names p r
names_there p (at.Verdict v) = verdict_names p v

holds_at : (n : Ids) (p : Sparse) → AreOneToOne n p → (e : Instance) → AreThere p (own e) → holds (instance_at n e) (map (contents_at n) (found_on (heads e) (more e) p)) ≡ holds e (found_on (heads e) (more e) p)
holds_at n p o (at.Reduction r) h = reduction_holds n p o r h
holds_at n p o (at.Verdict v) h = verdict_holds n p o v h

pub there_where_enabled : (p : Sparse) (e : Instance) → enabled_on p e ≡ true → AreThere p (own e)
there_where_enabled p (at.Reduction r) on = reduction_there p r on
there_where_enabled p (at.Verdict v) on = verdict_there p v on

instance_back : (n m : Ids) (e : Instance) → All (ComesBack n m) (own e) → instance_at n (instance_at m e) ≡ e
instance_back n m (at.Reduction r) h = ap (λ s. at.Reduction s) (reduction_back n m r h)
instance_back n m (at.Verdict v) h = ap (λ w. at.Verdict w) (verdict_back n m v h)

-- ---- from old ids to new ones
module _ (n : Ids) (p q : Sparse) (s : LinesStand n p q) where
  -- what is read
  parts_stand : (e : Instance) → AreThere p (heads e) → parts_on (heads (instance_at n e)) (more (instance_at n e)) q ≡ map (part_at n) (reads p e)
  parts_stand e h =
      let f : Instance = instance_at n e in
      let hs : List Part = heads e in
      ap (λ (ps : List Part). ps ++ more f (map (contents_of q) ps)) (heads_at n e)
      ∙ ap (λ (cs : List Contents). map (part_at n) hs ++ more f cs) (all_stand n p q s hs h)
      ∙ ap (λ (ps : List Part). map (part_at n) hs ++ ps) (more_at n p s.apart e)
      ∙ sym (map-append (part_at n) hs (more e (map (contents_of p) hs)))

  pub enabled_stands : (e : Instance) → AreThere p (own e) → enabled_on q (instance_at n e) ≡ enabled_on p e
  enabled_stands e h =
      let on : AreThere p (heads e) = heads_there p e h in
      ap (λ (ps : List Part). holds (instance_at n e) (map (contents_of q) ps)) (parts_stand e on)
      ∙ ap (holds (instance_at n e)) (all_stand n p q s (reads p e) (All-append (IsThere p) (heads e) (more e (map (contents_of p) (heads e))) on (names_there p e)))
      ∙ holds_at n p s.apart e h

  pub applies_stand : (numbers : Numbers) (r : Reduction) → q.offset ≡ p.offset → AreThere p (own_of r) → CanApply numbers p r ↔ CanApply numbers q (reduction_at n r)
  applies_stand numbers r o h = (there, back)
    where
      same : enabled_on q (at.Reduction (reduction_at n r)) ≡ enabled_on p (at.Reduction r)
      same = enabled_stands (at.Reduction r) h

      there : CanApply numbers p r → CanApply numbers q (reduction_at n r)
      there c = let es = edits_stand n p q s r c.enabled in record {
        enabled = same ∙ c.enabled;
        fits = record { computes = (computes_stand n p q s r c.enabled).0 c.fits.computes; edits = subst (EditsFit q) (sym es) ((edits_fit n p q o (edits r p)).0 c.fits.edits) };
        written = subst (EditsAreWritten numbers) (sym es) ((edits_written n numbers (edits r p)).0 c.written);
      }

      back : CanApply numbers q (reduction_at n r) → CanApply numbers p r
      back c = let on = sym same ∙ c.enabled in let es = edits_stand n p q s r on in record {
        enabled = on;
        fits = record { computes = (computes_stand n p q s r on).1 c.fits.computes; edits = (edits_fit n p q o (edits r p)).1 (subst (EditsFit q) es c.fits.edits) };
        written = (edits_written n numbers (edits r p)).1 (subst (EditsAreWritten numbers) es c.written);
      }

-- ---- and back
module _ (p q : Sparse) (l : IsLeft p q) where
  row_within : (a : ℕ) → IsThere q (Row a) → a < length (live_ids p.matrix.rows)
  row_within a h = omega (arith, row_inside q a h, l.rows)

  column_within : (b : ℕ) → IsThere q (Col b) → b < length (live_ids p.matrix.columns)
  column_within b h = omega (arith, column_inside q b h, l.columns)

  old_there : (a : Part) → IsThere q a → IsThere p (part_at (old_ids p) a)
  old_there (Row i) h = id_live p.matrix.rows i (row_within i h)
  old_there (Sides i) h = id_live p.matrix.rows i (row_within i h)
  old_there (Col j) h = id_live p.matrix.columns j (column_within j h)
  old_there (Bounds j) h = id_live p.matrix.columns j (column_within j h)

  comes_back : (a : Part) → IsThere q a → ComesBack (new_ids p) (old_ids p) a
  comes_back (Row i) h = id_rank p.matrix.rows i (row_within i h)
  comes_back (Sides i) h = id_rank p.matrix.rows i (row_within i h)
  comes_back (Col j) h = id_rank p.matrix.columns j (column_within j h)
  comes_back (Bounds j) h = id_rank p.matrix.columns j (column_within j h)

  pub own_back : (e : Instance) → AreThere q (own e) → AreThere p (own (instance_at (old_ids p) e))
  own_back e h = subst (AreThere p) (sym (own_at (old_ids p) e)) (All-map (IsThere p) (part_at (old_ids p)) (own e) (λ k d m. old_there (get_or (own e) k d) (h k d m)))

  pub instances_back : (e : Instance) → AreThere q (own e) → instance_at (new_ids p) (instance_at (old_ids p) e) ≡ e
  instances_back e h = instance_back (new_ids p) (old_ids p) e (λ k d m. comes_back (get_or (own e) k d) (h k d m))

  pub reductions_back : (r : Reduction) → AreThere q (own_of r) → reduction_at (new_ids p) (reduction_at (old_ids p) r) ≡ r
  reductions_back r h = reduction_back (new_ids p) (old_ids p) r (λ k d m. comes_back (get_or (own_of r) k d) (h k d m))
