-- What is marked of what was found.
use Rattle.std.proofs.Common.{◌≡◌, ◌⊎◌, inl, inr, ℕ, zero, ◌+◌, ◌<◌, List, [], ◌∷◌, ◌++◌, length, get_or, take, sym, refl, ap, ◌∙◌, subst, arith}
use Rattle.std.specs.List.{Contains}
use Rattle.std.proofs.lemmas.List.{take_more}
use Rattle.std.proofs.lemmas.List.Elements.{Contains-append_cases, Contains-append_left, Contains-append_right}
use Rattle.problem_model.specs.declared.part.Part.{Part}
use Rattle.presolve_model.specs.declared.instance.Instance.{Instance}
use Rattle.presolve_model.specs.declared.instance.Reach.{Reach}
use Rattle.presolve_model.specs.declared.instance.Reach.TheVariants.{OwnRow, OwnColumn, RowsOfBounds, ColumnsOfSides, RowsOfBoth, SoleColumns, RowsBeside, ColumnsBeside}
use Rattle.presolve_model.specs.Instances.{reach_of, rule_at}
use Rattle.presolve_model.specs.Tables.{heads}
use Rattle.place_laws.specs.Marks.{Grows, Marks, parts_for}
use Rattle.place_laws.proofs.ShortLists.{first_or_behind, none_in}
use Rattle.round_marks.specs.Marking.{left_by, left_over, Watched}
use Rattle.worker_rounds.specs.Marking.{IsLeft, Leaves, LeavesFound}
use Rattle.worker_rounds.specs.Workers.{WorkerData}

grows_none : (m : Marks) → Grows m m
grows_none m = record { noted = λ a c. c; stirred = λ a c. c; roused = λ a c. c; asleep = λ a c. c }

grows_twice : (l m n : Marks) → Grows l m → Grows m n → Grows l n
grows_twice l m n g h = record { noted = λ a c. h.noted a (g.noted a c); stirred = λ a c. h.stirred a (g.stirred a c); roused = λ a c. h.roused a (g.roused a c); asleep = λ a c. h.asleep a (g.asleep a c) }

-- ---- one instance
one_grows : (r : Reach) (m : Marks) (a : Part) → Grows m (left_by r m a)
one_grows OwnRow m a = record { noted = λ x c. Contains-append_left m.noted (a ∷ []) x c; stirred = λ x c. c; roused = λ x c. c; asleep = λ x c. c }
one_grows OwnColumn m a = record { noted = λ x c. Contains-append_left m.noted (a ∷ []) x c; stirred = λ x c. c; roused = λ x c. c; asleep = λ x c. c }
one_grows RowsOfBounds m a = record { noted = λ x c. Contains-append_left m.noted (a ∷ []) x c; stirred = λ x c. c; roused = λ x c. c; asleep = λ x c. c }
one_grows ColumnsOfSides m a = record { noted = λ x c. c; stirred = λ x c. Contains-append_left m.stirred (a ∷ []) x c; roused = λ x c. c; asleep = λ x c. c }
one_grows RowsOfBoth m a = record { noted = λ x c. c; stirred = λ x c. c; roused = λ x c. Contains-append_left m.roused (a ∷ []) x c; asleep = λ x c. c }
one_grows SoleColumns m a = record { noted = λ x c. Contains-append_left m.noted (a ∷ []) x c; stirred = λ x c. c; roused = λ x c. c; asleep = λ x c. c }
one_grows RowsBeside m a = record { noted = λ x c. Contains-append_left m.noted (a ∷ []) x c; stirred = λ x c. c; roused = λ x c. c; asleep = λ x c. c }
one_grows ColumnsBeside m a = record { noted = λ x c. Contains-append_left m.noted (a ∷ []) x c; stirred = λ x c. c; roused = λ x c. c; asleep = λ x c. c }

last_in : (ps : List Part) (a : Part) → Contains (ps ++ a ∷ []) a
last_in ps a = Contains-append_right ps (a ∷ []) a (zero, omega arith, refl)

one_counts : (r : Reach) (m : Marks) (a : Part) → Contains (parts_for (left_by r m a) r) a
one_counts OwnRow m a = last_in m.noted a
one_counts OwnColumn m a = last_in m.noted a
one_counts RowsOfBounds m a = last_in m.noted a
one_counts ColumnsOfSides m a = last_in m.stirred a
one_counts RowsOfBoth m a = last_in m.roused a
one_counts SoleColumns m a = last_in m.noted a
one_counts RowsBeside m a = last_in m.noted a
one_counts ColumnsBeside m a = last_in m.noted a

one_sleeps : (r : Reach) (m : Marks) (a : Part) → (left_by r m a).asleep ≡ m.asleep
one_sleeps OwnRow m a = refl
one_sleeps OwnColumn m a = refl
one_sleeps RowsOfBounds m a = refl
one_sleeps ColumnsOfSides m a = refl
one_sleeps RowsOfBoth m a = refl
one_sleeps SoleColumns m a = refl
one_sleeps RowsBeside m a = refl
one_sleeps ColumnsBeside m a = refl

counts_still : (m n : Marks) → Grows m n → (r : Reach) (a : Part) → Contains (parts_for m r) a → Contains (parts_for n r) a
counts_still m n g OwnRow a c = g.noted a c
counts_still m n g OwnColumn a c = g.noted a c
counts_still m n g RowsOfBounds a c = g.noted a c
counts_still m n g ColumnsOfSides a c = g.stirred a c
counts_still m n g RowsOfBoth a c = g.roused a c
counts_still m n g SoleColumns a c = g.noted a c
counts_still m n g RowsBeside a c = g.noted a c
counts_still m n g ColumnsBeside a c = g.noted a c

left_still : (m n : Marks) (e : Instance) → Grows m n → IsLeft m e → IsLeft n e
left_still m n e g (a, own, c) = (a, own, counts_still m n g (reach_of (rule_at e)) a c)

-- ---- those of a list, in turn
pub leaves_none : (w : Watched) → Leaves [] w w
leaves_none w = record { forms = refl; asleep = refl; grows = grows_none w.marks; left = λ e c. absurd (omega (arith, c.1)) }

taken_or_last : {X : Type 0} (es : List X) (n : ℕ) (d e : X) → n < length es → Contains (take (n + 1) es) e → Contains (take n es) e ⊎ (get_or es n d ≡ e)
taken_or_last {X} es n d e l c = by (Contains-append_cases (take n es) (get_or es n d ∷ []) e (subst (λ (ys : List X). Contains ys e) (take_more es n d l) c))
  where
    by : Contains (take n es) e ⊎ Contains (get_or es n d ∷ []) e → Contains (take n es) e ⊎ (get_or es n d ≡ e)
    by (inl k) = inl k
    by (inr k) = only (first_or_behind (get_or es n d) [] e k)
      where
        only : (get_or es n d ≡ e) ⊎ Contains [] e → Contains (take n es) e ⊎ (get_or es n d ≡ e)
        only (inl same) = inr same
        only (inr none) = absurd (none_in e none)

pub leaves_more : (es : List Instance) (n : ℕ) (d x : Instance) (a : Part) (w v u : Watched) → n < length es → x ≡ get_or es n d → Contains (heads x) a → Leaves (take n es) w v → u ≡ record { marks = left_over v.marks x a; forms = v.forms } → Leaves (take (n + 1) es) w u
leaves_more es n d x a w v u inside is own h e = subst (Leaves (take (n + 1) es) w) (sym e) (record {
  forms = h.forms;
  asleep = one_sleeps (reach_of (rule_at x)) v.marks a ∙ h.asleep;
  grows = grows_twice w.marks v.marks (left_over v.marks x a) h.grows more;
  left = λ y c. by y (taken_or_last es n d y inside c);
})
  where
    more : Grows v.marks (left_over v.marks x a)
    more = one_grows (reach_of (rule_at x)) v.marks a

    here : IsLeft (left_over v.marks x a) x
    here = (a, own, one_counts (reach_of (rule_at x)) v.marks a)

    by : (y : Instance) → Contains (take n es) y ⊎ (get_or es n d ≡ y) → IsLeft (left_over v.marks x a) y
    by y (inl c) = left_still v.marks (left_over v.marks x a) y more (h.left y c)
    by y (inr same) = subst (IsLeft (left_over v.marks x a)) (is ∙ same) here

-- ---- those of workers, in turn
pub found_none : (w : Watched) → LeavesFound [] w w
found_none w = record { forms = refl; asleep = refl; grows = grows_none w.marks; left = λ e (x, c, f). absurd (omega (arith, c.1)) }

pub found_more : (ws : List WorkerData) (n : ℕ) (d : WorkerData) (es : List Instance) (w v u : Watched) → n < length ws → es ≡ (get_or ws n d).1.found → LeavesFound (take n ws) w v → Leaves es v u → LeavesFound (take (n + 1) ws) w u
found_more ws n d es w v u inside is h k = record {
  forms = k.forms ∙ h.forms;
  asleep = k.asleep ∙ h.asleep;
  grows = grows_twice w.marks v.marks u.marks h.grows k.grows;
  left = λ e (x, c, f). by e x f (taken_or_last ws n d x inside c);
}
  where
    by : (e : Instance) (x : WorkerData) → Contains x.1.found e → Contains (take n ws) x ⊎ (get_or ws n d ≡ x) → IsLeft u.marks e
    by e x f (inl c) = left_still v.marks u.marks e k.grows (h.left e (x, c, f))
    by e x f (inr same) = k.left e (subst (λ (fs : List Instance). Contains fs e) (sym (is ∙ ap (λ (y : WorkerData). y.1.found) same)) f)
