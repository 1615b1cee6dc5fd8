-- What an instance reads depends on what its heads hold, and where it is enabled on what it reads.
use Rattle.std.proofs.Common.{◌≡◌, List, [], ◌∷◌, ◌++◌, map, take, length, refl, sym, ap, ◌∙◌}
use Rattle.std.proofs.lemmas.Simd.{map-map}
use Rattle.problem_model.specs.declared.part.Contents.{Contents}
use Rattle.problem_model.specs.declared.part.Part.{Part}
use Rattle.problem_model.specs.declared.part.Read.{Read}
use Rattle.problem_model.specs.Parts.{contents_of}
use Rattle.problem_model.specs.Reading.{Agrees, read_of}
use Rattle.problem_model.specs.Sparse.{Sparse}
use Rattle.rule_words.specs.Reading.{found_on}
use Rattle.presolve_model.specs.declared.instance.Instance.{Instance}
use Rattle.presolve_model.specs.Enabled.{enabled_on, reading_of, reads}
use Rattle.presolve_model.specs.Tables.{heads, holds, more}

pub heads_taken : (p : Sparse) (hs ms : List Part) → take (length hs) (map (contents_of p) (hs ++ ms)) ≡ map (contents_of p) hs
heads_taken p [] ms = refl
heads_taken p (h ∷ hs) ms = ap (λ cs. contents_of p h ∷ cs) (heads_taken p hs ms)

pub parts_read : (p : Sparse) (ps : List Part) → map (λ (r : Read). r.part) (map (read_of p) ps) ≡ ps
parts_read p [] = refl
parts_read p (a ∷ ps) = ap (λ (xs : List Part). a ∷ xs) (parts_read p ps)

-- a reading of a problem agrees with it
pub reading_agrees : (p : Sparse) (e : Instance) → Agrees p (reading_of p e)
reading_agrees p e = map-map (λ r. read_of p r.part) (read_of p) (reads p e)

-- ---- where the parts that an instance reads of p stand on q as they stand on p
module _ (p q : Sparse) (e : Instance) (same : map (read_of q) (reads p e) ≡ map (read_of p) (reads p e)) where
  contents_same : map (contents_of q) (reads p e) ≡ map (contents_of p) (reads p e)
  contents_same = sym (map-map (λ (r : Read). r.contents) (read_of q) (reads p e)) ∙ ap (map (λ (r : Read). r.contents)) same ∙ map-map (λ (r : Read). r.contents) (read_of p) (reads p e)

  heads_same : map (contents_of q) (heads e) ≡ map (contents_of p) (heads e)
  heads_same =
      let ms : List Part = more e (map (contents_of p) (heads e)) in
      sym (heads_taken q (heads e) ms) ∙ ap (take (length (heads e))) contents_same ∙ heads_taken p (heads e) ms

  pub parts_same : reads q e ≡ reads p e
  parts_same = ap (λ (cs : List Contents). heads e ++ more e cs) heads_same

  pub reading_same : reading_of q e ≡ reading_of p e
  reading_same = ap (map (read_of q)) parts_same ∙ same

  pub found_same : found_on (heads e) (more e) q ≡ found_on (heads e) (more e) p
  found_same = ap (map (contents_of q)) parts_same ∙ contents_same

  pub enabled_same : enabled_on q e ≡ enabled_on p e
  enabled_same = ap (holds e) found_same

-- ---- the same said by readings
pub parts_told : (p q : Sparse) (e : Instance) → reading_of q e ≡ reading_of p e → reads q e ≡ reads p e
parts_told p q e h = sym (parts_read q (reads q e)) ∙ ap (map (λ (r : Read). r.part)) h ∙ parts_read p (reads p e)

pub reads_told : (p q : Sparse) (e : Instance) → reading_of q e ≡ reading_of p e → map (read_of q) (reads p e) ≡ map (read_of p) (reads p e)
reads_told p q e h = ap (map (read_of q)) (sym (parts_told p q e h)) ∙ h

pub found_told : (p q : Sparse) (e : Instance) → reading_of q e ≡ reading_of p e → found_on (heads e) (more e) q ≡ found_on (heads e) (more e) p
found_told p q e h = found_same p q e (reads_told p q e h)
