-- What is watched after a commit.
use Rattle.std.proofs.Common.{◌≡◌, ◌⊎◌, inl, inr, ℕ, ◌-◌, ◌≤◌, List, [], ◌∷◌, ◌++◌, length, get_or, take, drop, refl, sym, ap, ◌∙◌, subst, arith, append_assoc}
use Rattle.std.proofs.lemmas.List.{append-nil}
use Rattle.std.specs.List.{Contains}
use Rattle.std.proofs.lemmas.List.Elements.{Contains-append_left, Contains-append_right}
use Rattle.problem_model.specs.declared.part.Part.{Part}
use Rattle.problem_model.specs.Noted.{AreNoted}
use Rattle.problem_model.specs.Reading.{read_of}
use Rattle.problem_model.specs.Sparse.{Sparse}
use Rattle.edit_laws.specs.Sizes.{SameSize}
use Rattle.presolve_model.specs.declared.instance.Instance.{Instance}
use Rattle.presolve_model.specs.declared.instance.Instance.TheVariants as at
use Rattle.presolve_model.specs.declared.outcome.Outcome.{Outcome}
use Rattle.presolve_model.specs.declared.outcome.Outcome.TheVariants.{Closed, Full, Stale, Past, NotDecimal, Applied, NoMemory}
use Rattle.presolve_model.specs.Commits.{left_by, with_instance}
use Rattle.presolve_model.specs.Given.{Proposed}
use Rattle.presolve_model.specs.Ledger.{Ledger}
use Rattle.presolve_model.proofs.Tabled.{same_size}
use Rattle.place_laws.specs.Marks.{AreStirred}
use Rattle.round_marks.specs.Forming.{AreFormsOf, form_on, form_put, Formed, lets_by_cost, lets_in_pairs, reformed, Stirs}
use Rattle.dual_laws.specs.Forms.{LetsByCost, LetsInPairs}
use Rattle.round_marks.specs.Marking.{Notes, Watched}
use Rattle.round_marks.proofs.Reforming.{cost_refl, cost_sound, pairs_refl, pairs_sound, reformed_right, stirred_right}

-- ---- a commit keeps the sizes
size_here : (p : Sparse) → SameSize p p
size_here p = record { rows = refl; columns = refl; constant = refl }

size_with : (b : Ledger) (v : ℕ) (e : Instance) → SameSize b.problem (with_instance b 0 v e).problem
size_with b v (at.Reduction r) = same_size b.problem r
size_with b v (at.Verdict x) = size_here b.problem

pub size_left : (b : Ledger) (p : Proposed) (o : Outcome) → SameSize b.problem (left_by b 0 p o).problem
size_left b p (Closed v) = size_here b.problem
size_left b p Full = size_here b.problem
size_left b p (Stale k) = size_here b.problem
size_left b p Past = size_here b.problem
size_left b p NotDecimal = size_here b.problem
size_left b p (Applied k) = size_with b p.version p.instance
size_left b p NoMemory = size_here b.problem

-- ---- what is noted, stirred, and the forms
module _ (p q : Sparse) (changed : List Part) (w v : Watched) (noted : AreNoted p q [] changed) (notes : Notes q changed w v) where
  pub notes_noted : AreNoted p q w.marks.noted v.marks.noted
  notes_noted = record {
    kept = λ a c. subst (λ (ps : List Part). Contains ps a) (sym notes.noted) (Contains-append_left w.marks.noted changed a c);
    changed = λ a. by a (noted.changed a);
  }
    where
      by : (a : Part) → (read_of q a ≡ read_of p a) ⊎ Contains changed a → (read_of q a ≡ read_of p a) ⊎ Contains v.marks.noted a
      by a (inl e) = inl e
      by a (inr c) = inr (subst (λ (ps : List Part). Contains ps a) (sym notes.noted) (Contains-append_right w.marks.noted changed a c))

  module _ (h : AreFormsOf w.forms p) (size : SameSize p q) where
    pub notes_stirred : AreStirred p q w.marks v.marks
    notes_stirred = record {
      stirred = stirred_right LetsByCost lets_by_cost cost_sound cost_refl p q w.forms changed w.marks.stirred v.marks.stirred h size noted notes.stirred;
      roused = stirred_right LetsInPairs lets_in_pairs pairs_sound pairs_refl p q w.forms changed w.marks.roused v.marks.roused h size noted notes.roused;
    }

    pub notes_forms : AreFormsOf v.forms q
    notes_forms = subst (λ f. AreFormsOf f q) (sym notes.forms) (reformed_right p q w.forms changed h size noted)

-- ---- parts noted one after the other
module _ (q : Sparse) where
  pub notes_none : (w : Watched) → Notes q [] w w
  notes_none w = record { noted = sym (append-nil w.marks.noted); stirred = refl; roused = refl; asleep = refl; forms = refl }

  pub notes_one_more : (a : Part) (ps : List Part) (w v u : Watched) → Notes q (a ∷ []) w v → Notes q ps v u → Notes q (a ∷ ps) w u
  notes_one_more a ps w v u one rest = let s = one.stirred in let r = one.roused in record {
    noted = rest.noted ∙ ap (λ (xs : List Part). xs ++ ps) one.noted ∙ append_assoc w.marks.noted (a ∷ []) ps;
    stirred = (s.0, s.1, subst (λ (xs : List Part). Stirs lets_by_cost (form_put w.forms a (form_on q a)) q ps xs u.marks.stirred) s.2 (subst (λ (f : Formed). Stirs lets_by_cost f q ps v.marks.stirred u.marks.stirred) one.forms rest.stirred));
    roused = (r.0, r.1, subst (λ (xs : List Part). Stirs lets_in_pairs (form_put w.forms a (form_on q a)) q ps xs u.marks.roused) r.2 (subst (λ (f : Formed). Stirs lets_in_pairs f q ps v.marks.roused u.marks.roused) one.forms rest.roused));
    asleep = rest.asleep ∙ one.asleep;
    forms = rest.forms ∙ ap (λ (f : Formed). reformed f q ps) one.forms;
  }

-- a list that is not empty, by its first and what is behind it
pub first_and_rest : {X : Type 0} (xs : List X) (d : X) → 1 ≤ length xs → get_or xs 0 d ∷ take (length xs - 1) (drop 1 xs) ≡ xs
first_and_rest [] d l = absurd (omega (arith, l))
first_and_rest {X} (x ∷ xs) d l = ap (λ (ys : List X). x ∷ ys) (let e : length (x ∷ xs) - 1 ≡ length xs = omega arith in ap (λ n. take n xs) e ∙ take_all xs)
  where
    take_all : (ys : List X) → take (length ys) ys ≡ ys
    take_all [] = refl
    take_all (y ∷ ys) = ap (λ (zs : List X). y ∷ zs) (take_all ys)
