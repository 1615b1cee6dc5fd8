use Rattle.std.proofs.Common.{◌≡◌, ◌∙◌, ◌+◌, ◌*◌, ℕ, false, List, get_or, ap, sym, refl, arith}
use Rattle.std.specs.Prelude.{unwrap_or, nat_lt, insert}
use Rattle.std.specs.List.{prefix_len}
use Rattle.lp_model.specs.declared.terms.Term.{Term}
use Rattle.lp_model.specs.Sparse.{has}
use Rattle.lp_gen.specs.Columns.{term, terms_of, entry_row, entry_coefficient}
use Rattle.lp_gen.proofs.Drawing.{no_draw, state_here, drawn_here}
use Rattle.lp_gen.proofs.Entries.{no_coefficient, no_terms}
use Rattle.lp_gen.proofs.Summing.{is_new, terms_left, terms_put, sums_left, sums_added}
use Rattle.lp_gen.proofs.columns.draw_terms.Goals as goal
use Rattle.lp_gen.proofs.columns.draw_terms.Goals.{then-not-has_id+in_ok-put, else-not-has_id}

pub loop-k-init : goal.loop-k-init
loop-k-init c = record {
  terms = c.new-terms.ensures.items ∙ sym (no_terms c.args.draws.now c.args.rows);
  state = no_draw c.args.draws.now;
  rows = c.requires.rows;
  sums = λ i l. omega (arith, ap (λ o. unwrap_or o 0) (no_coefficient c.args.draws.now c.args.rows i));
}

pub overflow_add-sums : goal.overflow_add-sums
overflow_add-sums c =
    let k = c.loop-k.k in
    let row = c.draw-row.result in
    let row_is : row ≡ entry_row c.args.draws.now c.args.rows k = c.draw-row.ensures.value ∙ drawn_here c.args.draws.now (2 * k) c.args.rows c.loop-k.draws c.loop-k.invariant.state in
    let later = state_here c.args.draws.now (2 * k) 1 (2 * k + 1) c.loop-k.draws c.draw-row.new.self c.loop-k.invariant.state c.draw-row.ensures.state refl in
    let coefficient_is : c.draw-coefficient.result + 1 ≡ entry_coefficient c.args.draws.now k = ap (λ (n : ℕ). n + 1) (c.draw-coefficient.ensures.value ∙ drawn_here c.args.draws.now (2 * k + 1) 9 c.draw-row.new.self later) in
    let seen : has row (terms_of c.args.draws.now c.args.rows k) ≡ false = ap (λ (ts : List Term). has row ts) (sym (c.as_slice.ensures.value ∙ c.loop-k.invariant.terms)) ∙ sym c.has_id.ensures ∙ c.if-not-has_id.true in
    let none = is_new c.args.draws.now c.args.rows k row (c.draw-coefficient.result + 1) c.draw-row.ensures.within row_is coefficient_is seen in
    omega (arith, c.loop-k.invariant.sums row c.draw-row.ensures.within, ap (λ o. unwrap_or o 0) none, c.requires.small row c.draw-row.ensures.within, c.draw-coefficient.ensures.within)

pub loop-k-preserved : goal.loop-k-preserved
loop-k-preserved c =
    let seed = c.args.draws.now in
    let rows = c.args.rows in
    let k = c.loop-k.k in
    let row = c.draw-row.result in
    let row_is : row ≡ entry_row seed rows k = c.draw-row.ensures.value ∙ drawn_here seed (2 * k) rows c.loop-k.draws c.loop-k.invariant.state in
    let later = state_here seed (2 * k) 1 (2 * k + 1) c.loop-k.draws c.draw-row.new.self c.loop-k.invariant.state c.draw-row.ensures.state refl in
    let coefficient_is : c.draw-coefficient.result + 1 ≡ entry_coefficient seed k = ap (λ (n : ℕ). n + 1) (c.draw-coefficient.ensures.value ∙ drawn_here seed (2 * k + 1) 9 c.draw-row.new.self later) in
    let asked : has row (terms_of seed rows k) ≡ c.has_id.result = ap (λ (ts : List Term). has row ts) (sym (c.as_slice.ensures.value ∙ c.loop-k.invariant.terms)) ∙ sym c.has_id.ensures in
    let e : 2 * k + 1 + 1 ≡ 2 * (k + 1) = omega arith in
    let state = state_here seed (2 * k + 1) 1 (2 * (k + 1)) c.draw-row.new.self c.draw-coefficient.new.self later c.draw-coefficient.ensures.state e in
    let long = c.if-not-has_id.auto.sums ∙ c.loop-k.invariant.rows in
    elim c.if-not-has_id.branch [
      | then-not-has_id+in_ok-put w ↦ record {
        terms =
            ap (λ v. v.items) w.terms-is ∙ w.in_ok-put.ensures
            ∙ ap (λ (ts : List Term). insert ts (prefix_len (λ (t : Term). nat_lt t.id row) ts) (term row (c.draw-coefficient.result + 1))) c.loop-k.invariant.terms
            ∙ terms_put seed rows k row (c.draw-coefficient.result + 1) c.draw-row.ensures.within row_is coefficient_is (asked ∙ w.if-not-has_id.true);
        state = state;
        rows = long;
        sums = λ i l.
            ap (λ (xs : List ℕ). get_or xs i 0) w.sums-is
            ∙ sums_added seed rows k row (c.draw-coefficient.result + 1) c.draw-row.ensures.within row_is coefficient_is c.loop-k.sums (λ (n : ℕ). get_or c.args.sums.now n 0) c.loop-k.invariant.rows (asked ∙ w.if-not-has_id.true) c.loop-k.invariant.sums i l;
      }
      | else-not-has_id w ↦ record {
        terms = ap (λ v. v.items) w.terms-is ∙ c.loop-k.invariant.terms ∙ terms_left seed rows k row (c.draw-coefficient.result + 1) c.draw-row.ensures.within row_is coefficient_is (asked ∙ w.if-not-has_id.false);
        state = state;
        rows = long;
        sums = λ i l.
            ap (λ (xs : List ℕ). get_or xs i 0) w.sums-is
            ∙ sums_left seed rows k row (c.draw-coefficient.result + 1) c.draw-row.ensures.within row_is coefficient_is i _ _ (asked ∙ w.if-not-has_id.false) (c.loop-k.invariant.sums i l);
      }
    ]
