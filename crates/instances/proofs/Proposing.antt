-- What is enabled on a problem is enabled on what it reads of it.
use Rattle.std.proofs.Common.{◌≡◌, true, List, ◌++◌, map, take, length, sym, ap, ◌∙◌}
use Rattle.std.proofs.lemmas.Simd.{map-map}
use Rattle.problem_model.specs.declared.part.Contents.{Contents}
use Rattle.problem_model.specs.declared.part.Read.{Read}
use Rattle.problem_model.specs.Parts.{contents_of}
use Rattle.problem_model.specs.Reading.{read_of}
use Rattle.problem_model.specs.Sparse.{Sparse}
use Rattle.presolve_model.specs.declared.instance.Instance.{Instance}
use Rattle.presolve_model.specs.Enabled.{Enabled, enabled_on, reading_of, reads}
use Rattle.presolve_model.specs.Tables.{heads, holds, more}
use Rattle.presolve_model.proofs.Readings.{heads_taken, parts_read}

pub reading_enables : (p : Sparse) (e : Instance) → enabled_on p e ≡ true → Enabled e (reading_of p e)
reading_enables p e on =
    let found : map (λ (r : Read). r.contents) (reading_of p e) ≡ map (contents_of p) (reads p e) = map-map (λ (r : Read). r.contents) (read_of p) (reads p e) in
    let first : take (length (heads e)) (map (λ (r : Read). r.contents) (reading_of p e)) ≡ map (contents_of p) (heads e) =
    ap (take (length (heads e))) found ∙ heads_taken p (heads e) (more e (map (contents_of p) (heads e))) in
    record {
      parts = parts_read p (reads p e) ∙ sym (ap (λ (cs : List Contents). heads e ++ more e cs) first);
      holds = ap (holds e) found ∙ on;
    }
