-- Problems that can be written still can, with numbers that can.
use Rattle.std.proofs.Common.{◌≡◌, ℕ, Bool, true, false, List, [], ◌∷◌, nat_eq, nat_lt, Option, Some, None, refl, sym, ap, ◌∙◌, subst}
use Rattle.std.specs.Prelude.{IfSome, if◌then◌else◌}
use Rattle.std.specs.List.{All}
use Rattle.std.proofs.lemmas.List.{get_or-set_same, get_or-set_other}
use Rattle.std.proofs.lemmas.List.Elements.{All-cons, All-filter, All-head, All-tail}
use Rattle.fractions.specs.Compare.{eq_ℚ}
use Rattle.fractions.specs.Number.{Number, zero_ℚ}
use Rattle.fractions.proofs.Totals.{at_or_off}
use Rattle.fractions.specs.declared.Numbers.{Numbers}
use Rattle.lp_model.specs.declared.terms.Term.{Term}
use Rattle.lp_model.specs.Writable.{IsNear, WritableNumber, WritableBound}
use Rattle.problem_model.specs.declared.line.Line.{Line}
use Rattle.problem_model.specs.declared.line.Sides.{Sides}
use Rattle.problem_model.specs.declared.line.Bounds.{Bounds}
use Rattle.problem_model.specs.Edits.{losing, row_deleted, column_deleted, sides_set, bounds_set, offset_set, cost_set, entry_set}
use Rattle.lp_model.specs.Ends.{WidthFits, WidthIsWritten, IsWritten, AreNear, IsSided}
use Rattle.problem_model.specs.Matrices.{line_at}
use Rattle.problem_model.specs.Problems.{row_at, column_at, sides_at, bounds_at, cost_at, IsSparse}
use Rattle.problem_model.specs.Sparse.{Sparse}
use Rattle.problem_model.specs.Writing.{KeptSides, KeptColumn, IsWritable}
use Rattle.problem_laws.proofs.AtIds.{without-dead, without-live, without-other, losing_keeps, losing-at, losing-live, sides_set-same, sides_set-other, bounds_set-same, bounds_set-other, row_inside, column_inside, sides_inside, bounds_inside, cost_inside}
use Rattle.problem_laws.proofs.Terms.{not_both}
use Rattle.problem_model.specs.Allowed.{IsAllowed}
use Rattle.problem_model.specs.Applied.{edited}
use Rattle.problem_model.specs.Entries.{led_by, put_term}
use Rattle.problem_model.specs.NewNumbers.{EditFits, EditIsWritten, EditIsSided}
use Rattle.problem_model.specs.declared.edit.Edit.{Edit}
use Rattle.problem_model.specs.declared.edit.Edit.TheVariants.{DeleteRow, DeleteColumn, SetSides, SetBounds, AddOffset, SetCost, SetEntry}
use Rattle.problem_laws.proofs.EntriesKept.{put_row_live, put_column_live, put-same_line, put-other_line}

module _ (numbers : Numbers) where
  abbrev IsWrittenTerm : Term → Type 0
  IsWrittenTerm t = WritableNumber numbers t.value

  -- what a column keeps that is live as before, with the same bounds, cost and entries
  column_kept : (p q : Sparse) (k : ℕ) → cost_at q k ≡ cost_at p k → bounds_at q k ≡ bounds_at p k → (column_at q k).entries ≡ (column_at p k).entries → KeptColumn numbers p k → KeptColumn numbers q k
  column_kept p q k e f g c = record {
    cost = subst (WritableNumber numbers) (sym e) c.cost;
    lower = subst (λ (b : Bounds). IfSome b.lower (WritableBound numbers)) (sym f) c.lower;
    upper = subst (λ (b : Bounds). IfSome b.upper (WritableBound numbers)) (sym f) c.upper;
    entries = subst (All (λ (t : Term). WritableNumber numbers t.value)) (sym g) c.entries;
  }

  -- those that a line keeps where it loses one
  all_losing : (others : List Line) (k : ℕ) (l : Line) → All IsWrittenTerm l.entries → All IsWrittenTerm (losing others k l).entries
  all_losing others k l h = losing_keeps others k l (All IsWrittenTerm) h (All-filter (λ t. (line_at others t.id).live) IsWrittenTerm l.entries h)

  writable-row_deleted : (p : Sparse) (i : ℕ) → (row_at p i).live ≡ true → IsWritable numbers p → IsWritable numbers (row_deleted p i)
  writable-row_deleted p i live w = record {
    rows = at_or_off (λ k. (row_at (row_deleted p i) k).live ≡ true → KeptSides numbers (sides_at (row_deleted p i) k).lower (sides_at (row_deleted p i) k).upper) i
        (λ h. absurd (not_both h (without-dead p.matrix.rows i (row_inside p i live))))
        (λ k n h. (w.rows k (sym (without-live p.matrix.rows i k n) ∙ h)));
    columns = λ j h. let left : List Line = (row_deleted p i).matrix.rows in let c = w.columns j (sym (losing-live left p.matrix.columns i j) ∙ h) in record {
      cost = c.cost;
      lower = c.lower;
      upper = c.upper;
      entries = subst (λ (l : Line). All IsWrittenTerm l.entries) (sym (losing-at left p.matrix.columns i j)) (all_losing left i (column_at p j) c.entries);
    };
  }

  writable-column_deleted : (p : Sparse) (j : ℕ) → (column_at p j).live ≡ true → IsWritable numbers p → IsWritable numbers (column_deleted p j)
  writable-column_deleted p j live w = record {
    rows = λ i h. w.rows i (sym (losing-live (column_deleted p j).matrix.columns p.matrix.rows j i) ∙ h);
    columns = at_or_off (λ k. (column_at (column_deleted p j) k).live ≡ true → KeptColumn numbers (column_deleted p j) k) j
        (λ h. absurd (not_both h (without-dead p.matrix.columns j (column_inside p j live))))
        (λ k n h. column_kept p (column_deleted p j) k refl refl (ap (λ (l : Line). l.entries) (without-other p.matrix.columns j k n))
        (w.columns k (sym (without-live p.matrix.columns j k n) ∙ h)));
  }

  kept_sides : (l u : Option Number) → IsSided l u → IsWritten numbers l u → WidthIsWritten numbers l u → WidthFits l u → KeptSides numbers l u
  kept_sides None None h d y f = h
  kept_sides (Some l) None h d y f = d.0
  kept_sides None (Some u) h d y f = d.1
  kept_sides (Some l) (Some u) h d y f = (d.0, d.1, λ n. record { width_fits = (f n).0; sum_fits = (f n).1; width = y n })

  writable-sides_set : (p : Sparse) (i : ℕ) (l u : Option Number) → IsSparse p → (row_at p i).live ≡ true → IsSided l u → IsWritten numbers l u → WidthIsWritten numbers l u → WidthFits l u
      → IsWritable numbers p → IsWritable numbers (sides_set p i l u)
  writable-sides_set p i l u s live h d y f w = record {
    rows = at_or_off (λ k. (row_at p k).live ≡ true → KeptSides numbers (sides_at (sides_set p i l u) k).lower (sides_at (sides_set p i l u) k).upper) i
        (λ on. subst (λ (x : Sides). KeptSides numbers x.lower x.upper) (sym (sides_set-same p i l u (sides_inside p i s live))) (kept_sides l u h d y f))
        (λ k n on. subst (λ (x : Sides). KeptSides numbers x.lower x.upper) (sym (sides_set-other p i l u k n)) (w.rows k on));
    columns = λ k on. column_kept p (sides_set p i l u) k refl refl refl (w.columns k on);
  }

  near_and_written : (o : Option Number) → IfSome o (WritableNumber numbers) → IfSome o IsNear → IfSome o (WritableBound numbers)
  near_and_written None a b = a
  near_and_written (Some e) a b = (a, b)

  writable-bounds_set : (p : Sparse) (j : ℕ) (l u : Option Number) → IsSparse p → (column_at p j).live ≡ true → IsWritten numbers l u → AreNear l u → IsWritable numbers p → IsWritable numbers (bounds_set p j l u)
  writable-bounds_set p j l u s live d n w = record {
    rows = w.rows;
    columns = at_or_off (λ k. (column_at p k).live ≡ true → KeptColumn numbers (bounds_set p j l u) k) j
        (λ h. let c = w.columns j h in let e = bounds_set-same p j l u (bounds_inside p j s live) in record {
          cost = c.cost;
          entries = c.entries;
          lower = subst (λ (b : Bounds). IfSome b.lower (WritableBound numbers)) (sym e) (near_and_written l d.0 n.0);
          upper = subst (λ (b : Bounds). IfSome b.upper (WritableBound numbers)) (sym e) (near_and_written u d.1 n.1);
        })
        (λ k m h. column_kept p (bounds_set p j l u) k refl (bounds_set-other p j l u k m) refl (w.columns k h));
  }

  writable-cost_set : (p : Sparse) (j : ℕ) (c : Number) → IsSparse p → (column_at p j).live ≡ true → WritableNumber numbers c → IsWritable numbers p → IsWritable numbers (cost_set p j c)
  writable-cost_set p j c s live d w = record {
    rows = w.rows;
    columns = at_or_off (λ k. (column_at p k).live ≡ true → KeptColumn numbers (cost_set p j c) k) j
        (λ h. let k = w.columns j live in record {
          cost = subst (WritableNumber numbers) (sym (get_or-set_same p.costs j c zero_ℚ (cost_inside p j s live))) d;
          lower = k.lower;
          upper = k.upper;
          entries = k.entries;
        })
        (λ k n h. column_kept p (cost_set p j c) k (get_or-set_other p.costs j k c zero_ℚ n) refl refl (w.columns k h));
  }

  all_led : (k : ℕ) (a : Number) (ts : List Term) → WritableNumber numbers a → All IsWrittenTerm ts → All IsWrittenTerm (led_by k a ts)
  all_led k a ts d h = by (eq_ℚ a zero_ℚ)
    where
      by : (b : Bool) → All IsWrittenTerm (if b then ts else record { id = k; value = a } ∷ ts)
      by true = h
      by false = All-cons IsWrittenTerm (record { id = k; value = a }) ts d h

  all_put : (k : ℕ) (a : Number) (ts : List Term) → WritableNumber numbers a → All IsWrittenTerm ts → All IsWrittenTerm (put_term k a ts)
  all_put k a [] d h = all_led k a [] d h
  all_put k a (t ∷ ts) d h = by (nat_lt t.id k) (nat_eq t.id k) (all_put k a ts d (All-tail IsWrittenTerm t ts h))
    where
      by : (b c : Bool) → All IsWrittenTerm (put_term k a ts) → All IsWrittenTerm (if b then t ∷ put_term k a ts else if c then led_by k a ts else led_by k a (t ∷ ts))
      by true c ih = All-cons IsWrittenTerm t (put_term k a ts) (All-head IsWrittenTerm t ts h) ih
      by false true ih = all_led k a ts d (All-tail IsWrittenTerm t ts h)
      by false false ih = all_led k a (t ∷ ts) d h

  writable-entry_set : (p : Sparse) (i j : ℕ) (a : Number) → (row_at p i).live ≡ true → (column_at p j).live ≡ true → WritableNumber numbers a → IsWritable numbers p → IsWritable numbers (entry_set p i j a)
  writable-entry_set p i j a row column d w = record {
    rows = λ k on. w.rows k (sym (put_row_live p i j a row k) ∙ on);
    columns = at_or_off (λ k. (column_at (entry_set p i j a) k).live ≡ true → KeptColumn numbers (entry_set p i j a) k) j
        (λ h. let k = w.columns j column in record {
          cost = k.cost;
          lower = k.lower;
          upper = k.upper;
          entries = subst (λ (l : Line). All IsWrittenTerm l.entries) (sym (put-same_line p.matrix.columns j i a (column_inside p j column))) (all_put i a (column_at p j).entries d k.entries);
        })
        (λ k n h. column_kept p (entry_set p i j a) k refl refl (ap (λ (l : Line). l.entries) (put-other_line p.matrix.columns j i a k n)) (w.columns k (sym (put_column_live p i j a column k) ∙ h)));
  }

  pub writable_edited : (p : Sparse) (e : Edit) → IsSparse p → IsWritable numbers p → IsAllowed p e → EditFits e → EditIsWritten numbers e → EditIsSided e → IsWritable numbers (edited p e)
  writable_edited p (DeleteRow i) s w live f d h = writable-row_deleted p i live w
  writable_edited p (DeleteColumn j) s w live f d h = writable-column_deleted p j live w
  writable_edited p (SetSides i l u) s w live f d h = writable-sides_set p i l u s live h d.0 d.1 f w
  writable_edited p (SetBounds j l u) s w live f d h = writable-bounds_set p j l u s live.0 d f w
  writable_edited p (AddOffset k) s w live f d h = record { rows = w.rows; columns = λ j on. column_kept p (offset_set p (edited p (AddOffset k)).offset) j refl refl refl (w.columns j on) }
  writable_edited p (SetCost j c) s w live f d h = writable-cost_set p j c s live d w
  writable_edited p (SetEntry i j a) s w live f d h = writable-entry_set p i j a live.0 live.1 d w
