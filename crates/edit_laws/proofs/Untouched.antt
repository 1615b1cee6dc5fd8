-- What an edit doesn't touch stands as it did.
use Rattle.std.proofs.Common.{◌≡◌, ◌≢◌, ℕ, pred, nat_eq, Bool, true, false, List, refl, ap, ◌∙◌, Option}
use Rattle.std.specs.Prelude.{if◌then◌else◌}
use Rattle.std.proofs.lemmas.Bool.{eq-eqb}
use Rattle.std.proofs.lemmas.List.{get_or-set_other}
use Rattle.fractions.specs.Number.{Number, zero_ℚ, ◌+ℚ◌}
use Rattle.lp_model.specs.Sparse.{has}
use Rattle.problem_model.specs.declared.line.Line.{Line}
use Rattle.problem_model.specs.declared.part.Part.{Part}
use Rattle.problem_model.specs.declared.part.Part.TheVariants as part
use Rattle.problem_model.specs.declared.part.Contents.TheVariants as holds
use Rattle.problem_model.specs.Edits.{thinned, losing, row_deleted, column_deleted, sides_set, bounds_set, offset_set, cost_set, entry_set}
use Rattle.problem_model.specs.Matrices.{live_only}
use Rattle.problem_model.specs.Parts.{contents_of, bounds_held}
use Rattle.problem_model.specs.Problems.{row_at, column_at, sides_at, bounds_at, cost_at, row_entries, column_entries, IsSparse}
use Rattle.problem_model.specs.Sparse.{Sparse}
use Rattle.problem_laws.proofs.AtIds.{row_inside, column_inside, row_deleted-other, row_deleted-column, column_deleted-other, column_deleted-row, losing_live, sides_set-other, bounds_set-other}
use Rattle.problem_laws.proofs.Terms.{not_both, without-absent}
use Rattle.problem_laws.proofs.Entries.{live_only-same, column_entries-has, row_entries-has, row_deleted-row_entries, row_deleted-column_entries, column_deleted-row_entries, column_deleted-column_entries}
use Rattle.problem_model.specs.Allowed.{IsAllowed}
use Rattle.problem_model.specs.Applied.{edited}
use Rattle.problem_model.specs.Touching.{touches}
use Rattle.problem_model.specs.declared.edit.Edit.{Edit}
use Rattle.problem_model.specs.declared.edit.Edit.TheVariants.{DeleteRow, DeleteColumn, SetSides, SetBounds, AddOffset, SetCost, SetEntry}
use Rattle.problem_laws.proofs.EntriesKept.{put_row_live, put_column_live, put-other_line}

apart : (k i : ℕ) → nat_eq k i ≡ false → k ≢ i
apart k i h e = not_both (eq-eqb k i e) h

not_lost : (others : List Line) (k : ℕ) (l : Line) → has k l.entries ≡ false → losing others k l ≡ l
not_lost others k l h = ap (λ (b : Bool). if b then thinned others (record l { live_entries = pred l.live_entries }) else l) h

-- ---- what parts hold, by what it is made of
module _ (p q : Sparse) where
  pub rows_hold : (i : ℕ) → (row_at q i).live ≡ (row_at p i).live → row_entries q i ≡ row_entries p i → contents_of q (part.Row i) ≡ contents_of p (part.Row i)
  rows_hold i e f t = if e t then holds.Entries (f t) else holds.Gone

  pub sides_hold : (i : ℕ) → (row_at q i).live ≡ (row_at p i).live → sides_at q i ≡ sides_at p i → contents_of q (part.Sides i) ≡ contents_of p (part.Sides i)
  sides_hold i e f t = if e t then holds.Sides (f t).lower (f t).upper else holds.Gone

  pub columns_hold : (j : ℕ) → (column_at q j).live ≡ (column_at p j).live → column_entries q j ≡ column_entries p j → cost_at q j ≡ cost_at p j → contents_of q (part.Col j) ≡ contents_of p (part.Col j)
  columns_hold j e f g t = if e t then holds.Column (f t) (g t) else holds.Gone

  pub bounds_hold : (j : ℕ) → (column_at q j).live ≡ (column_at p j).live → bounds_at q j ≡ bounds_at p j → contents_of q (part.Bounds j) ≡ contents_of p (part.Bounds j)
  bounds_hold j e f t = if e t then bounds_held (f t).semi (f t).lower (f t).upper (f t).whole else holds.Gone

live_of : {k l : Line} → k ≡ l → k.live ≡ l.live
live_of e = ap (λ (y : Line). y.live) e

row_stays : (p : Sparse) (i : ℕ) (a : Part) → IsSparse p → (row_at p i).live ≡ true → touches p (DeleteRow i) a ≡ false → contents_of (row_deleted p i) a ≡ contents_of p a
row_stays p i (part.Row k) s live h = let e = row_deleted-other p i k (apart k i h) in rows_hold p (row_deleted p i) k (live_of e) (row_deleted-row_entries p i k (apart k i h))
row_stays p i (part.Sides k) s live h = sides_hold p (row_deleted p i) k (live_of (row_deleted-other p i k (apart k i h))) refl
row_stays p i (part.Col j) s live h = columns_hold p (row_deleted p i) j (live_of (row_deleted-column p i j ∙ not_lost (row_deleted p i).matrix.rows i (column_at p j) h))
    (row_deleted-column_entries p i (row_inside p i live) j ∙ without-absent i (column_entries p j) (column_entries-has p j i live ∙ h)) refl
row_stays p i (part.Bounds j) s live h = bounds_hold p (row_deleted p i) j (live_of (row_deleted-column p i j) ∙ losing_live (row_deleted p i).matrix.rows i (column_at p j)) refl

column_stays : (p : Sparse) (j : ℕ) (a : Part) → IsSparse p → (column_at p j).live ≡ true → touches p (DeleteColumn j) a ≡ false → contents_of (column_deleted p j) a ≡ contents_of p a
column_stays p j (part.Row i) s live h = rows_hold p (column_deleted p j) i (live_of (column_deleted-row p j i ∙ not_lost (column_deleted p j).matrix.columns j (row_at p i) h))
    (column_deleted-row_entries p j (column_inside p j live) i ∙ without-absent j (row_entries p i) (row_entries-has p i j live ∙ h))
column_stays p j (part.Sides i) s live h = sides_hold p (column_deleted p j) i (live_of (column_deleted-row p j i) ∙ losing_live (column_deleted p j).matrix.columns j (row_at p i)) refl
column_stays p j (part.Col k) s live h = let e = column_deleted-other p j k (apart k j h) in columns_hold p (column_deleted p j) k (live_of e) (column_deleted-column_entries p j k (apart k j h)) refl
column_stays p j (part.Bounds k) s live h = bounds_hold p (column_deleted p j) k (live_of (column_deleted-other p j k (apart k j h))) refl

sides_stay : (p : Sparse) (i : ℕ) (l u : Option Number) (a : Part) → touches p (SetSides i l u) a ≡ false → contents_of (sides_set p i l u) a ≡ contents_of p a
sides_stay p i l u (part.Row k) h = refl
sides_stay p i l u (part.Sides k) h = sides_hold p (sides_set p i l u) k refl (sides_set-other p i l u k (apart k i h))
sides_stay p i l u (part.Col j) h = refl
sides_stay p i l u (part.Bounds j) h = refl

bounds_stay : (p : Sparse) (j : ℕ) (l u : Option Number) (a : Part) → touches p (SetBounds j l u) a ≡ false → contents_of (bounds_set p j l u) a ≡ contents_of p a
bounds_stay p j l u (part.Row i) h = refl
bounds_stay p j l u (part.Sides i) h = refl
bounds_stay p j l u (part.Col k) h = refl
bounds_stay p j l u (part.Bounds k) h = bounds_hold p (bounds_set p j l u) k refl (bounds_set-other p j l u k (apart k j h))

cost_stays : (p : Sparse) (j : ℕ) (c : Number) (a : Part) → touches p (SetCost j c) a ≡ false → contents_of (cost_set p j c) a ≡ contents_of p a
cost_stays p j c (part.Row i) h = refl
cost_stays p j c (part.Sides i) h = refl
cost_stays p j c (part.Col k) h = columns_hold p (cost_set p j c) k refl refl (get_or-set_other p.costs j k c zero_ℚ (apart k j h))
cost_stays p j c (part.Bounds k) h = refl

module _ (p : Sparse) (i j : ℕ) (v : Number) (row : (row_at p i).live ≡ true) (column : (column_at p j).live ≡ true) where
  row_lives : (k : ℕ) → (row_at (entry_set p i j v) k).live ≡ (row_at p k).live
  row_lives = put_row_live p i j v row

  column_lives : (k : ℕ) → (column_at (entry_set p i j v) k).live ≡ (column_at p k).live
  column_lives = put_column_live p i j v column

  entry_stays : (a : Part) → touches p (SetEntry i j v) a ≡ false → contents_of (entry_set p i j v) a ≡ contents_of p a
  entry_stays (part.Row k) h = rows_hold p (entry_set p i j v) k (row_lives k)
      (ap (λ (l : Line). live_only (entry_set p i j v).matrix.columns l.entries) (put-other_line p.matrix.rows i j v k (apart k i h))
      ∙ live_only-same p.matrix.columns (entry_set p i j v).matrix.columns column_lives (row_at p k).entries)
  entry_stays (part.Sides k) h = sides_hold p (entry_set p i j v) k (row_lives k) refl
  entry_stays (part.Col k) h = columns_hold p (entry_set p i j v) k (column_lives k)
      (ap (λ (l : Line). live_only (entry_set p i j v).matrix.rows l.entries) (put-other_line p.matrix.columns j i v k (apart k j h))
      ∙ live_only-same p.matrix.rows (entry_set p i j v).matrix.rows row_lives (column_at p k).entries) refl
  entry_stays (part.Bounds k) h = bounds_hold p (entry_set p i j v) k (column_lives k) refl

offset_stays : (p : Sparse) (k : Number) (a : Part) → contents_of (offset_set p k) a ≡ contents_of p a
offset_stays p k (part.Row i) = refl
offset_stays p k (part.Sides i) = refl
offset_stays p k (part.Col j) = refl
offset_stays p k (part.Bounds j) = refl

pub stays_edited : (p : Sparse) (e : Edit) (a : Part) → IsSparse p → IsAllowed p e → touches p e a ≡ false → contents_of (edited p e) a ≡ contents_of p a
stays_edited p (DeleteRow i) a s live h = row_stays p i a s live h
stays_edited p (DeleteColumn j) a s live h = column_stays p j a s live h
stays_edited p (SetSides i l u) a s live h = sides_stay p i l u a h
stays_edited p (SetBounds j l u) a s live h = bounds_stay p j l u a h
stays_edited p (AddOffset k) a s live h = offset_stays p (p.offset +ℚ k) a
stays_edited p (SetCost j c) a s live h = cost_stays p j c a h
stays_edited p (SetEntry i j v) a s live h = entry_stays p i j v live.0 live.1 a h
