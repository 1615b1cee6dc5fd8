-- Where only the form of ends is looked at, an instance reads the same parts where their entries are the same, and is enabled where it was on
-- a problem of which each form lets it.
use Rattle.std.proofs.Common.{◌≡◌, true, List, [], ◌∷◌, ◌++◌, map, refl, sym, ap, ap₂, ◌∙◌}
use Rattle.std.proofs.lemmas.Simd.{map-map}
use Rattle.problem_model.specs.declared.part.Contents.{Contents}
use Rattle.problem_model.specs.declared.part.Part.{Part}
use Rattle.problem_model.specs.Parts.{contents_of}
use Rattle.problem_model.specs.Sparse.{Sparse}
use Rattle.dual_laws.specs.declared.form.Form.{Form}
use Rattle.dual_laws.specs.Forms.{EachLets, line_of, seen, seen_at}
use Rattle.presolve_model.specs.declared.instance.Instance.{Instance}
use Rattle.presolve_model.specs.Enabled.{enabled_on, reads}
use Rattle.presolve_model.specs.Instances.{goes_by_form, lets_by, reach_of, rule_at}
use Rattle.presolve_model.specs.Tables.{heads, holds, more}
use Rattle.presolve_model.proofs.ByCases.{forms_suffice, RestsOnForms}

abbrev line_at : Sparse → Part → Contents
line_at p a = line_of (contents_of p a)

lines_of : (p : Sparse) (ps : List Part) → map line_of (map (contents_of p) ps) ≡ map (line_at p) ps
lines_of p ps = map-map line_of (contents_of p) ps

seen_of : (p : Sparse) (ps : List Part) → map seen (map (contents_of p) ps) ≡ map (seen_at p) ps
seen_of p ps = map-map seen (contents_of p) ps

-- of the first of parts the entries are the same
heads_same : (R : Form → Form → Type 0) (p q : Sparse) (hs ms : List Part) → EachLets R (map (seen_at p) (hs ++ ms)) (map (seen_at q) (hs ++ ms)) → map (line_at p) hs ≡ map (line_at q) hs
heads_same R p q [] ms k = refl
heads_same R p q (h ∷ hs) ms (k, l) = ap₂ (λ (c : Contents) (cs : List Contents). c ∷ cs) k.0 (heads_same R p q hs ms l)

-- q lets what p lets, of the parts that are read of p
module _ (p q : Sparse) (e : Instance) (by_form : goes_by_form (reach_of (rule_at e)) ≡ true) (lets : EachLets (lets_by (reach_of (rule_at e))) (map (seen_at p) (reads p e)) (map (seen_at q) (reads p e))) where
  rests : RestsOnForms e
  rests = forms_suffice e by_form

  more_same : more e (map (contents_of q) (heads e)) ≡ more e (map (contents_of p) (heads e))
  more_same =
      let same : map (line_at q) (heads e) ≡ map (line_at p) (heads e) = sym (heads_same (lets_by (reach_of (rule_at e))) p q (heads e) (more e (map (contents_of p) (heads e))) lets) in
      rests.more.1 (map (contents_of q) (heads e)) ∙ ap rests.more.0 (lines_of q (heads e) ∙ same ∙ sym (lines_of p (heads e))) ∙ sym (rests.more.1 (map (contents_of p) (heads e)))

  pub parts_by_form : reads q e ≡ reads p e
  parts_by_form = ap (λ (ps : List Part). heads e ++ ps) more_same

  pub enabled_by_form : enabled_on p e ≡ true → enabled_on q e ≡ true
  enabled_by_form on =
      let here : rests.holds.by (map (seen_at p) (reads p e)) ≡ true = ap rests.holds.by (sym (seen_of p (reads p e))) ∙ sym (rests.holds.is (map (contents_of p) (reads p e))) ∙ on in
      ap (λ (ps : List Part). holds e (map (contents_of q) ps)) parts_by_form
      ∙ rests.holds.is (map (contents_of q) (reads p e))
      ∙ ap rests.holds.by (seen_of q (reads p e))
      ∙ rests.holds.lets (map (seen_at p) (reads p e)) (map (seen_at q) (reads p e)) lets here
