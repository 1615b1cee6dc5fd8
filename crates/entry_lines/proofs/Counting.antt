-- Entries counted out of the lines that a line names.
use Rattle.std.proofs.Common.{◌≡◌, ℕ, Bool, List, [], ◌++◌, length, take, drop, get_or, true, false, refl, sym, ap, ap₂, ◌∙◌, subst, arith}
use Rattle.std.specs.Prelude.{if◌then◌else◌}
use Rattle.std.proofs.lemmas.List.{length-map, ext_get_or}
use Rattle.std.proofs.Math.ListN.{get_or-map}
use Rattle.lp_model.specs.declared.terms.Term.{Term}
use Rattle.lp_model.specs.Sparse.{has}
use Rattle.problem_model.specs.declared.line.Line.{Line}
use Rattle.problem_model.specs.Matrices.{no_line, line_at, live_only, IsMatrix}
use Rattle.problem_model.specs.Edits.{losing, lines_losing}
use Rattle.problem_laws.proofs.Terms.{same_ids}
use Rattle.entry_lines.specs.Losses.{counted_out, counted_out_at}
use Rattle.entry_lines.proofs.Places.{length-edited_at, edited_at-at}
use Rattle.entry_lines.proofs.Deleting.{entries_read, written_back}

-- a line without entries loses none
none_lost : (others : List Line) (y : Line) → y.entries ≡ [] → y.live_entries ≡ 0 → counted_out others y ≡ y
none_lost others y e f =
    let same : y ≡ record y { entries = []; live_entries = 0 } = λ t. record y { entries = e t; live_entries = f t } in
    subst (λ (z : Line). counted_out others z ≡ z) (sym same) refl

-- in a matrix the live lines that a live line names are those that name it
one_loses : (left lines others : List Line) (k j : ℕ) → IsMatrix (record { rows = lines; columns = others }) → (line_at lines k).live ≡ true
    → (if has j (line_at lines k).entries then counted_out left (line_at others j) else line_at others j) ≡ losing left k (line_at others j)
one_loses left lines others k j m live = by (line_at others j).live refl
  where
    y : Line
    y = line_at others j

    either : (a b : Bool) → counted_out left y ≡ y → (if a then counted_out left y else y) ≡ (if b then counted_out left y else y)
    either true true h = refl
    either true false h = h
    either false true h = sym h
    either false false h = refl

    by : (b : Bool) → (line_at others j).live ≡ b → (if has j (line_at lines k).entries then counted_out left y else y) ≡ losing left k y
    by true on = ap (λ (b : Bool). if b then counted_out left y else y)
        (same_ids j k 0 (length others) 0 (length lines) (line_at lines k).entries y.entries (m.rows.ascends k) (m.columns.ascends j) (m.agree k j live on))
    by false off =
        let none : y.entries ≡ [] = m.columns.gone j off in
        either (has j (line_at lines k).entries) (has k y.entries) (none_lost left y none (m.columns.counted j ∙ ap (λ (ts : List Term). length (live_only lines ts)) none))

pub lines_lose : (left lines others : List Line) (k : ℕ) → IsMatrix (record { rows = lines; columns = others }) → (line_at lines k).live ≡ true
    → counted_out_at left others (line_at lines k).entries ≡ lines_losing left others k
lines_lose left lines others k m live =
    ext_get_or no_line (counted_out_at left others (line_at lines k).entries) (lines_losing left others k)
    (length-edited_at no_line (λ (t : Term). counted_out left) others (line_at lines k).entries ∙ sym (length-map others (losing left k)))
    (λ j l. edited_at-at no_line (λ (t : Term). counted_out left) others (line_at lines k).entries 0 (length others) (m.rows.ascends k) (omega arith) j
    ∙ one_loses left lines others k j m live
    ∙ sym (get_or-map (losing left k) others j no_line))

-- and the others lose them, written through a slice
pub others_lose : (n : ℕ) (left lines others slice new : List Line) (k : ℕ) (d y : Line) (ts : List Term) → IsMatrix (record { rows = lines; columns = others }) → (line_at lines k).live ≡ true
    → y ≡ get_or lines k d → ts ≡ y.entries → slice ≡ others → length others ≡ n → new ≡ counted_out_at left slice ts
    → take n (new ++ drop (length new) others) ≡ lines_losing left others k
others_lose n left lines others slice new k d y ts m live e f s long made =
    let all : new ≡ counted_out_at left others (line_at lines k).entries = made ∙ ap₂ (λ (us : List Line) (vs : List Term). counted_out_at left us vs) s (entries_read lines k d y ts live e f) in
    written_back n new others (ap length all ∙ length-edited_at no_line (λ (t : Term). counted_out left) others (line_at lines k).entries) long
    ∙ all ∙ lines_lose left lines others k m live
