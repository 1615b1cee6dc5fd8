-- The parts of notes that hold something else after a commit are those that stand otherwise.
use Rattle.std.proofs.Common.{◌≡◌, ℕ, Bool, true, false, ◌||◌, ◌&&◌, List, [], ◌∷◌, ◌++◌, map, refl, sym, ap, ap₂, ◌∙◌, arith, ◌⊎◌, inl, inr}
use Rattle.std.specs.List.{Contains, filter}
use Rattle.std.proofs.lemmas.List.Elements.{Contains-append_left, Contains-append_right}
use Rattle.problem_model.specs.declared.edit.Edit.{Edit}
use Rattle.problem_model.specs.declared.part.Part.{Part}
use Rattle.problem_model.specs.Allowed.{AreAllowed}
use Rattle.problem_model.specs.Applied.{applied}
use Rattle.problem_model.specs.Noted.{AreNoted}
use Rattle.problem_model.specs.Parts.{contents_of}
use Rattle.problem_model.specs.Problems.{IsSparse}
use Rattle.problem_model.specs.Raised.{changes_after, committed, numbered, same_contents}
use Rattle.problem_model.specs.Reading.{read_of}
use Rattle.problem_model.specs.Sparse.{Sparse}
use Rattle.problem_laws.proofs.Numbering.{contents-numbered}
use Rattle.problem_laws.proofs.Terms.{not_both}
use Rattle.edit_laws.proofs.Raising.{counted_committed}
use Rattle.problem_data.specs.Renumbered.{same_part}
use Rattle.problem_commits.specs.declared.notes.Note.{Note}
use Rattle.problem_commits.specs.Noting.{all_noted, has_changed, is_other}
use Rattle.problem_commits.proofs.Noted.{same_part-is, told, untold_same}
use Rattle.std.specs.Prelude.{if◌then◌else◌}
use Rattle.problem_model.specs.declared.part.Contents.{Contents}
use Rattle.edit_laws.proofs.SameContents.{is-same_contents, same_contents-is}

abbrev pub parts_of : List Note → List Part
parts_of ns = map (λ n. n.part) ns

-- new numbers tell nothing new
told_numbered : (p r : Sparse) (f : Part → ℕ) (ns : List Note) (a : Part) → told p (numbered r f) ns a ≡ told p r ns a
told_numbered p r f [] a = refl
told_numbered p r f (n ∷ ns) a = ap₂ (λ (c : Contents) (b : Bool). (same_part n.part a && is_other n.held c) || b) (contents-numbered r f n.part) (told_numbered p r f ns a)

module _ (p q : Sparse) where
  -- a part that a note says to hold something else is told
  told_in : (ns : List Note) (a : Part) → told p q ns a ≡ true → Contains (parts_of (filter (has_changed q) ns)) a
  told_in [] a h = absurd (not_both h refl)
  told_in (n ∷ ns) a h = by (same_part n.part a) refl (has_changed q n) h (λ g. told_in ns a g)
    where
      by : (b : Bool) → same_part n.part a ≡ b → (c : Bool) → ((b && c) || told p q ns a) ≡ true → (told p q ns a ≡ true → Contains (parts_of (filter (has_changed q) ns)) a)
          → Contains (parts_of (if c then n ∷ filter (has_changed q) ns else filter (has_changed q) ns)) a
      by true e true f rest = (0, omega arith, sym (same_part-is n.part a e))
      by true e false f rest = rest f
      by false e true f rest = Contains-append_right (n.part ∷ []) (parts_of (filter (has_changed q) ns)) a (rest f)
      by false e false f rest = rest f

module _ (p : Sparse) (es : List Edit) (s : IsSparse p) (h : AreAllowed p es) where
  abbrev q : Sparse
  q = committed p es

  -- what holds after the edits holds after new numbers
  other_told : (a : Part) → same_contents (contents_of p a) (contents_of q a) ≡ false → told p q (all_noted p es) a ≡ true
  other_told a o = by (told p (applied p es) (all_noted p es) a) refl
    where
      by : (b : Bool) → told p (applied p es) (all_noted p es) a ≡ b → told p q (all_noted p es) a ≡ true
      by true e = told_numbered p (applied p es) (changes_after p (applied p es)) (all_noted p es) a ∙ e
      by false e = absurd (not_both (is-same_contents (contents_of p a) (contents_of q a) (sym (contents-numbered (applied p es) (changes_after p (applied p es)) a ∙ untold_same p es a s h e))) o)

  pub notes_told : (before : List Part) → AreNoted p q before (before ++ parts_of (filter (has_changed q) (all_noted p es)))
  notes_told before = record {
    kept = λ a. Contains-append_left before told_now a;
    changed = λ a. by a (same_contents (contents_of p a) (contents_of q a)) refl;
  }
    where
      told_now : List Part
      told_now = parts_of (filter (has_changed q) (all_noted p es))

      by : (a : Part) (b : Bool) → same_contents (contents_of p a) (contents_of q a) ≡ b → (read_of q a ≡ read_of p a) ⊎ Contains (before ++ told_now) a
      by a true e = let same : contents_of q a ≡ contents_of p a = sym (same_contents-is (contents_of p a) (contents_of q a) e) in
          inl (λ t. record { part = a; changes = (counted_committed p es s h a).same same t; contents = same t })
      by a false e = inr (Contains-append_right before told_now a (told_in p q (all_noted p es) a (other_told a e)))
