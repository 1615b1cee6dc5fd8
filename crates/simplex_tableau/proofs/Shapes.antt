-- Tableaus as data that were pivoted.
use Rattle.std.proofs.Common.{◌≡◌, ◌≢◌, ℕ, ◌<◌, ◌≤◌, ◌⊎◌, inl, inr, Bool, true, false, List, length, get_or, set, take, drop, ◌++◌, sym, refl, ap, ap₂, ◌∙◌, [], arith, subst, true≢false}
use Rattle.std.proofs.Math.Seq.{take-append_seam}
use Rattle.std.proofs.lemmas.List.{get_or-set_same, get_or-set_other, length-set, get_or_past, get_or_default}
use Rattle.fractions.specs.Number.{Number, zero_ℚ, ◌+ℚ◌, ◌-ℚ◌, ◌*ℚ◌, neg_ℚ}
use Rattle.fractions.specs.Lowest.{Fits}
use Rattle.fractions.specs.FracWords.{SumFits}
use Rattle.tableau_laws.specs.Room.{PivotFits, ValuesFit}
use Rattle.fractions.specs.Division.{◌/ℚ◌}
use Rattle.fractions.specs.Total.{put}
use Rattle.fractions.proofs.Totals.{put-same, put-other}
use Rattle.lp_model.specs.Vectors.{vector_of}
use Rattle.tableau_laws.specs.Tableaus.{Tableau, pivoted, shifted, gain, CanPivot}
use Rattle.tableau_laws.specs.Keeping.{IsSplit}
use Rattle.tableau_laws.proofs.Pivots.{apart, at_three, basic_e, basic_b, basic_m}
use Rattle.tableau_laws.proofs.Keeps.{pivot_splits}
use Rattle.simplex_tableau.specs.Data.{TableauData, shown, IsShaped}
use Rattle.tableau_rows.specs.Places.{row_of, Moves, MovesTo}
use Rattle.tableau_rows.specs.Turning.{AreTurnable, AreTurned, TurningFits}
use Rattle.tableau_rows.proofs.RowLaws.{below_or_past}

pub can_turn : (d : TableauData) (b e : ℕ) → IsShaped d → CanPivot (shown d) b e → AreTurnable (length d.prices) b e d.rows d.prices
can_turn d b e s h = record {
  b_within = omega (arith, h.b_within, s.prices);
  e_within = omega (arith, h.e_within, s.prices);
  apart = apart (shown d) b e h;
  rows_long = s.rows ∙ sym s.prices;
  prices_long = refl;
  leaving = s.long b h.b_basic ∙ sym s.prices;
  entering = s.empty e h.e_other;
  not_zero = h.not_zero;
  column = λ m. column m (below_or_past m (length d.values));
  others = λ m n. others m n (get_or d.basic m false) refl;
  price = s.split.prices b h.b_within h.b_basic;
}
  where
    column : (m : ℕ) → (m < length d.values) ⊎ (length d.values ≤ m) → row_of d.rows m b ≡ zero_ℚ
    column m (inl l) = s.split.columns m b l h.b_within h.b_basic
    column m (inr l) = ap (λ (row : List Number). vector_of row b) (get_or_past d.rows m [] (omega (arith, l, s.rows))) ∙ get_or_past [] b zero_ℚ (omega arith)

    others : (m : ℕ) → row_of d.rows m e ≢ zero_ℚ → (q : Bool) → get_or d.basic m false ≡ q → length (get_or d.rows m []) ≡ length d.prices
    others m n true q = s.long m q ∙ sym s.prices
    others m n false q = absurd (n (get_or_past (get_or d.rows m []) e zero_ℚ (omega (arith, s.empty m q))))

-- flags that were set
pub flags_set : (flags : List Bool) (b e k : ℕ) → b < length flags → e < length flags → b ≢ e → get_or (set (set flags b false) e true) k false ≡ put (put (λ k. get_or flags k false) b false) e true k
flags_set flags b e k lb le n = at_three (λ k. get_or (set (set flags b false) e true) k false ≡ put (put (λ k. get_or flags k false) b false) e true k) b e
    (let l : e < length (set flags b false) = omega (arith, le, length-set flags b false) in get_or-set_same (set flags b false) e true false l ∙ sym (put-same (put (λ k. get_or flags k false) b false) e true))
    (λ o. get_or-set_other (set flags b false) e b true false o ∙ get_or-set_same flags b false false lb ∙ sym (put-other (put (λ k. get_or flags k false) b false) e true b o ∙ put-same (λ k. get_or flags k false) b false))
    (λ m d o. get_or-set_other (set flags b false) e m true false d ∙ get_or-set_other flags b m false false o ∙ sym (put-other (put (λ k. get_or flags k false) b false) e true m d ∙ put-other (λ k. get_or flags k false) b false m o))
    k

-- what a pivot made of the data
pub record IsPivotOf (d n : TableauData) (b e : ℕ) (bound w : Number) : Type 0 where
  pub turned : AreTurned (length d.prices) b e d.rows n.rows d.prices n.prices
  pub moved : MovesTo b e (row_of d.rows) w bound d.values n.values
  pub long : length n.values ≡ length d.values
  pub gain : w ≡ (bound -ℚ vector_of d.values b) /ℚ row_of d.rows b e
  pub flags : n.basic ≡ set (set d.basic b false) e true

pub pivot_shown : (d n : TableauData) (b e : ℕ) (bound w : Number) → IsShaped d → CanPivot (shown d) b e → IsPivotOf d n b e bound w → shown n ≡ pivoted (shown d) b e bound
pivot_shown d n b e bound w s h p = λ i. record {
  size = p.long i;
  basic = λ k. (ap (λ (fs : List Bool). get_or fs k false) p.flags ∙ flags_set d.basic b e k (omega (arith, h.b_within, s.basic)) (omega (arith, h.e_within, s.basic)) (apart (shown d) b e h)) i;
  table = λ m k. p.turned.table m k i;
  prices = λ k. p.turned.priced k i;
  values = λ k. (p.moved k ∙ ap (λ (g : Number). put (put (λ m. vector_of d.values m +ℚ row_of d.rows m e *ℚ g) e (vector_of d.values e +ℚ g)) b bound k) p.gain) i;
}

pub pivot_shaped : (d n : TableauData) (b e : ℕ) (bound w : Number) → IsShaped d → CanPivot (shown d) b e → IsPivotOf d n b e bound w → IsShaped n
pivot_shaped d n b e bound w s h p = record {
  rows = p.turned.rows_long ∙ s.prices ∙ sym p.long;
  basic = ap length p.flags ∙ length-set (set d.basic b false) e true ∙ length-set d.basic b false ∙ s.basic ∙ sym p.long;
  prices = p.turned.prices_long ∙ s.prices ∙ sym p.long;
  long = λ m q. at_three (λ m. (pivoted (shown d) b e bound).basic m ≡ true → length (get_or n.rows m []) ≡ length n.values) b e
      (λ q. p.turned.entered ∙ s.prices ∙ sym p.long)
      (λ o q. absurd (true≢false (sym q ∙ basic_b (shown d) b e bound o)))
      (λ m o r q. p.turned.others m r o ∙ s.long m (sym (basic_m (shown d) b e bound m o r) ∙ q) ∙ sym p.long)
      m (sym (flag m) ∙ q);
  empty = λ m q. at_three (λ m. (pivoted (shown d) b e bound).basic m ≡ false → length (get_or n.rows m []) ≡ 0) b e
      (λ q. absurd (true≢false (sym (basic_e (shown d) b e bound) ∙ q)))
      (λ o q. p.turned.left)
      (λ m o r q. p.turned.others m r o ∙ s.empty m (sym (basic_m (shown d) b e bound m o r) ∙ q))
      m (sym (flag m) ∙ q);
  split = subst (λ (t : Tableau). IsSplit t) (sym (pivot_shown d n b e bound w s h p)) (pivot_splits (shown d) b e bound s.split h);
}
  where
    flag : (m : ℕ) → get_or n.basic m false ≡ (pivoted (shown d) b e bound).basic m
    flag m = ap (λ (t : Tableau). t.basic m) (pivot_shown d n b e bound w s h p)

-- ---- room
pub fits_made : (d : TableauData) (b e : ℕ) (bound w : Number) (vs ws ps row : List Number) (rs : List (List Number)) → IsShaped d → vs ≡ d.values → ws ≡ d.values → ps ≡ d.prices → row ≡ get_or d.rows b [] → rs ≡ d.rows → w ≡ gain (shown d) b e bound
    → SumFits bound (neg_ℚ (vector_of vs b)) × Fits ((bound -ℚ vector_of vs b) /ℚ vector_of row e)
    → SumFits (vector_of ws e) w × ValuesFit (length ws) b e (row_of rs) (vector_of ws) w
    → TurningFits (length ps) b e d.rows ps → PivotFits (shown d) b e bound
fits_made d b e bound w vs ws ps row rs s ev ew ep er es eg f g h =
    let f' : SumFits bound (neg_ℚ (vector_of d.values b)) × Fits (gain (shown d) b e bound) = subst (λ (v : List Number). SumFits bound (neg_ℚ (vector_of v b)) × Fits ((bound -ℚ vector_of v b) /ℚ row_of d.rows b e)) ev
    (subst (λ (r : List Number). SumFits bound (neg_ℚ (vector_of vs b)) × Fits ((bound -ℚ vector_of vs b) /ℚ vector_of r e)) er f) in
    let g' : SumFits (vector_of d.values e) (gain (shown d) b e bound) × ValuesFit (length d.values) b e (row_of d.rows) (vector_of d.values) (gain (shown d) b e bound) =
    subst (λ (x : Number). SumFits (vector_of d.values e) x × ValuesFit (length d.values) b e (row_of d.rows) (vector_of d.values) x) eg
    (subst (λ (r : List (List Number)). SumFits (vector_of d.values e) w × ValuesFit (length d.values) b e (row_of r) (vector_of d.values) w) es
    (subst (λ (v : List Number). SumFits (vector_of v e) w × ValuesFit (length v) b e (row_of rs) (vector_of v) w) ew g)) in
    let h' : TurningFits (length d.values) b e d.rows d.prices = subst (λ k. TurningFits k b e d.rows d.prices) s.prices (subst (λ (p : List Number). TurningFits (length p) b e d.rows p) ep h) in
    record { difference = f'.0; quotient = f'.1; entering = g'.0; values = g'.1; line = h'.line; rows = h'.each_row; prices = h'.price_row }

pub move_room : (d : TableauData) (b e : ℕ) (bound w : Number) (ws : List Number) (rs : List (List Number)) → ws ≡ d.values → rs ≡ d.rows → w ≡ gain (shown d) b e bound → PivotFits (shown d) b e bound
    → SumFits (vector_of ws e) w × ValuesFit (length ws) b e (row_of rs) (vector_of ws) w
move_room d b e bound w ws rs ew es eg f =
    subst (λ (v : List Number). SumFits (vector_of v e) w × ValuesFit (length v) b e (row_of rs) (vector_of v) w) (sym ew)
    (subst (λ (r : List (List Number)). SumFits (vector_of d.values e) w × ValuesFit (length d.values) b e (row_of r) (vector_of d.values) w) (sym es)
    (subst (λ (x : Number). SumFits (vector_of d.values e) x × ValuesFit (length d.values) b e (row_of d.rows) (vector_of d.values) x) (sym eg) (f.entering, f.values)))

pub turn_room : (d : TableauData) (b e : ℕ) (bound : Number) (ps : List Number) → IsShaped d → ps ≡ d.prices → PivotFits (shown d) b e bound → TurningFits (length ps) b e d.rows ps
turn_room d b e bound ps s ep f = subst (λ (p : List Number). TurningFits (length p) b e d.rows p) (sym ep)
    (subst (λ k. TurningFits k b e d.rows d.prices) (sym s.prices) (record { line = f.line; each_row = f.rows; price_row = f.prices }))

-- ---- what a struct holds and what its contract calls it
pub record Held (d given : TableauData) (b e : ℕ) : Type 0 where
  pub view : d ≡ given
  pub shaped : IsShaped d
  pub can : CanPivot (shown d) b e

pub held : (d given : TableauData) (b e : ℕ) (Line : Type 0) → d ≡ given → given.spent ≡ false → (d.spent ≡ false → IsShaped d × Line) → CanPivot (shown given) b e → Held d given b e
held d given b e Line v u i c = record {
  view = v;
  shaped = (i (ap (λ (x : TableauData). x.spent) v ∙ u)).0;
  can = subst (λ (x : TableauData). CanPivot (shown x) b e) (sym v) c;
}

-- a slice that was written back
pub back_again : (len : ℕ) (slice new items : List Number) → length slice ≡ len → length new ≡ length slice → take len (new ++ drop (length new) items) ≡ new
back_again len slice new items el en = ap (λ n. take n (new ++ drop (length new) items)) (sym el ∙ sym en) ∙ take-append_seam new (drop (length new) items)

pub gain_is : (d : TableauData) (b e : ℕ) (bound w : Number) (vs row read : List Number) → b < length d.rows → vs ≡ d.values → row ≡ get_or d.rows b read → w ≡ (bound -ℚ vector_of vs b) /ℚ vector_of row e → (row ≡ get_or d.rows b []) × (w ≡ gain (shown d) b e bound)
gain_is d b e bound w vs row read l ev er ew =
    let r : row ≡ get_or d.rows b [] = er ∙ get_or_default d.rows b read [] l in
    (r, ew ∙ ap₂ (λ (v r : List Number). (bound -ℚ vector_of v b) /ℚ vector_of r e) ev r)

-- ---- a shift
pub shift_shown : (d n : TableauData) (e : ℕ) (w : Number) → n.rows ≡ d.rows → n.basic ≡ d.basic → n.prices ≡ d.prices → length n.values ≡ length d.values → Moves e (row_of d.rows) w d.values n.values → shown n ≡ shifted (shown d) e w
shift_shown d n e w er eb ep el m = λ i. record {
  size = el i;
  basic = λ k. get_or (eb i) k false;
  table = λ k. row_of (er i) k;
  prices = vector_of (ep i);
  values = λ k. m k i;
}
