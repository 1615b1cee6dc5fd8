-- What the tables give, with no case: each law of reductions from what is owed and from the laws of edits.
use Rattle.std.proofs.Common.{◌≡◌, true, List, ◌++◌, map, take, length, sym, ap, ◌∙◌}
use Rattle.std.proofs.lemmas.Simd.{map-map}
use Rattle.fractions.specs.Number.{◌+ℚ◌}
use Rattle.fractions.specs.declared.Numbers.{Numbers}
use Rattle.lp_model.specs.declared.program.Sense.TheVariants.{Min}
use Rattle.lp_model.specs.Optimality.{Continuous}
use Rattle.lp_model.specs.Reductions.{Reduces, ReducesPairs}
use Rattle.undo_records.specs.Lift.{undone}
use Rattle.undo_records.specs.Sound.{IsSound}
use Rattle.undo_records.specs.Walk.{NamesLive, after}
use Rattle.undo_pairs.specs.LiftPair.{undone_pair}
use Rattle.problem_model.specs.declared.part.Contents.{Contents}
use Rattle.problem_model.specs.declared.part.Part.{Part}
use Rattle.problem_model.specs.declared.part.Read.{Read}
use Rattle.problem_model.specs.Reading.{Agrees, read_of}
use Rattle.problem_model.specs.Flags.{flags_of}
use Rattle.problem_model.specs.Parts.{contents_of}
use Rattle.problem_model.specs.Problems.{IsSparse}
use Rattle.problem_model.specs.Showing.{shown}
use Rattle.problem_model.specs.Sparse.{Sparse}
use Rattle.problem_model.specs.Writing.{IsWritable}
use Rattle.edit_laws.specs.Telling.{IsCounted}
use Rattle.edit_laws.specs.Sizes.{SameSize}
use Rattle.edit_laws.proofs.Committed.{offset_committed, flags_committed, size_committed, writable_committed}
use Rattle.edit_laws.proofs.Raising.{committed_sparse, counted_committed}
use Rattle.edit_laws.proofs.Reducing.{continuous_committed}
use Rattle.rule_words.specs.Owed.{Owes}
use Rattle.presolve_model.specs.declared.instance.Reduction.{Reduction}
use Rattle.rule_words.specs.Ray.{StepsBack}
use Rattle.rule_words.specs.StepBack.{weighed_in}
use Rattle.presolve_model.specs.declared.instance.Instance.{Instance}
use Rattle.presolve_model.specs.declared.instance.Instance.TheVariants as at
use Rattle.presolve_model.specs.Tables.{heads, more, holds, edits, record_of}
use Rattle.presolve_model.specs.Changes.{changed, added, ChangeFits, ChangeIsWritten}
use Rattle.presolve_model.specs.Enabled.{reads, reading_of, enabled_on, Enabled}
use Rattle.presolve_model.specs.Instances.{rests_on_reading, rule_of}
use Rattle.presolve_model.specs.Replay.{CanApply}
use Rattle.presolve_model.specs.Transactions.{numbered, numbers_read, told_of}
use Rattle.presolve_model.proofs.ByCases.{reductions_owe, refusals_rest}
use Rattle.presolve_model.proofs.Readings.{enabled_same, heads_taken, reads_told}

module _ (p : Sparse) (r : Reduction) where
  pub adds : (changed r p).offset ≡ p.offset +ℚ added r p
  adds = offset_committed p (edits r p)

  pub same_size : SameSize p (changed r p)
  same_size = size_committed p (edits r p)

  module _ (s : IsSparse p) (e : enabled_on p (at.Reduction r) ≡ true) where
    owed : Owes p (edits r p) (record_of r p)
    owed = reductions_owe p r s e

    pub reduces_changed : Reduces Min (shown p) (shown (changed r p)) (undone (record_of r p)) (added r p)
    reduces_changed = owed.reduces

    pub pairs_changed : Continuous (shown p) → ReducesPairs Min (shown p) (shown (changed r p)) (undone_pair (record_of r p))
    pairs_changed = owed.pairs

    pub rays_changed : Continuous (shown p) → StepsBack (shown p) (shown (changed r p)) (weighed_in (record_of r p) (shown (changed r p)))
    rays_changed = owed.rays

    pub continuous_changed : Continuous (shown p) → Continuous (shown (changed r p))
    continuous_changed = continuous_committed p (edits r p) s owed.allowed

    pub sound_changed : IsSparse (changed r p)
    sound_changed = committed_sparse p (edits r p) s owed.allowed

    pub counted_changed : (a : Part) → IsCounted p (changed r p) a
    counted_changed a = counted_committed p (edits r p) s owed.allowed a

    pub writable_changed : (numbers : Numbers) → IsWritable numbers p → ChangeFits r p → ChangeIsWritten numbers r p → IsWritable numbers (changed r p)
    writable_changed numbers w f d = writable_committed numbers p (edits r p) s w owed.allowed f.edits.each d (owed.sided numbers w)

    pub sound_record : IsSound (length p.matrix.rows) (length p.matrix.columns) (record_of r p)
    sound_record = owed.sound

    pub names_live : NamesLive (flags_of p) (record_of r p)
    names_live = owed.names

    pub flags_after : flags_of (changed r p) ≡ after (record_of r p) (flags_of p)
    flags_after = flags_committed p (edits r p) ∙ owed.deletes

-- ---- a reading that agrees
module _ (p : Sparse) (e : Instance) (rs : List Read) (a : Agrees p rs) (h : Enabled e rs) where
  abbrev contents : List Contents
  contents = map (λ (r : Read). r.contents) rs

  abbrev parts : List Part
  parts = map (λ (r : Read). r.part) rs

  contents_read : contents ≡ map (contents_of p) parts
  contents_read = sym (ap (map (λ r. r.contents)) a) ∙ map-map _ _ rs ∙ sym (map-map _ _ rs)

  parts_by : parts ≡ reads p e
  parts_by =
      let tail : List Part = more e (take (length (heads e)) contents) in
      let first : take (length (heads e)) contents ≡ map (contents_of p) (heads e) = ap (take (length (heads e))) (contents_read ∙ ap (map (contents_of p)) h.parts) ∙ heads_taken p (heads e) tail in
      h.parts ∙ ap (λ hs. heads e ++ more e hs) first

  pub enabled_by : enabled_on p e ≡ true
  enabled_by = ap (holds e) (ap (map (contents_of p)) (sym parts_by) ∙ sym contents_read) ∙ h.holds

  -- what the instance reads of the problem is what was read, with its numbers
  pub numbers_by : numbers_read p e ≡ map told_of rs
  numbers_by = ap (map (numbered p)) (sym parts_by) ∙ map-map (numbered p) (λ (r : Read). r.part) rs ∙ sym (map-map told_of (λ (r : Read). read_of p r.part) rs) ∙ ap (map told_of) a

-- ---- where refusals rest on the reading, what reads the same can be applied alike
pub applied_alike : (numbers : Numbers) (p q : Sparse) (r : Reduction) → rests_on_reading (rule_of r) ≡ true → reading_of q (at.Reduction r) ≡ reading_of p (at.Reduction r) → CanApply numbers q r → CanApply numbers p r
applied_alike numbers p q r t h can =
    let on : enabled_on p (at.Reduction r) ≡ true = enabled_same q p (at.Reduction r) (reads_told q p (at.Reduction r) (sym h)) ∙ can.enabled in
    let alike = refusals_rest numbers p q r t on h in
    record { enabled = on; fits = alike.0 can.fits; written = alike.1 can.written }
