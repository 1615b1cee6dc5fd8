-- As many instances are enabled without what was deleted: one induction over lines, and one over rules.
use Rattle.std.proofs.Common.{◌≡◌, ℕ, suc, ◌+◌, Bool, true, false, cond, List, [], ◌∷◌, ◌++◌, get_or, length, map, refl, sym, ap, ap₂, ◌∙◌, arith}
use Rattle.std.specs.Prelude.{if◌then◌else◌}
use Rattle.std.specs.List.{All, filter, flat_map, range_with_len}
use Rattle.std.proofs.lemmas.List.{length-append}
use Rattle.std.proofs.lemmas.List.Elements.{All-head, All-map, All-tail, filter-append}
use Rattle.problem_model.specs.declared.line.Line.{Line}
use Rattle.problem_model.specs.Matrices.{line_at}
use Rattle.problem_model.specs.Programs.{live_ids, live_ids_from, rank}
use Rattle.problem_model.specs.Sparse.{Sparse}
use Rattle.problem_laws.proofs.Terms.{not_both}
use Rattle.program_laws.proofs.Ranks.{id_if, rank-dead, rank-live, rank-zero}
use Rattle.presolve_model.specs.declared.instance.Instance.{Instance}
use Rattle.presolve_model.specs.declared.instance.Rule.{Rule}
use Rattle.presolve_model.specs.Enabled.{enabled_on}
use Rattle.presolve_model.specs.Instances.{beside_at, goes_by_groups, id_count, instances_from, is_of_rows}
use Rattle.presolve_model.specs.Order.{reduction_order}
use Rattle.presolve_model.specs.Scans.{all_ids, all_of, instances_at}
use Rattle.presolve_model.specs.Stuck.{skipped_on}
use Rattle.presolve_model.specs.Tallies.{Open}
use Rattle.written_ids.specs.NewIds.{new_ids}
use Rattle.written_ids.specs.Standing.{IsLeft}
use Rattle.written_ids.proofs.Lists.{all_one}
use Rattle.written_laws.specs.Left.{AreOpenAlike}
use Rattle.written_laws.proofs.ByCases.{groups_at_lines, groups_from, groups_stand, instance_at, instances_at_line, instances_stand, lines_of}
use Rattle.written_laws.proofs.Tabled.{enabled_stands, there_where_enabled}

-- how many pass a test
abbrev pub passing : (Instance → Bool) → List Instance → ℕ
passing t es = length (filter t es)

passing_more : (t : Instance → Bool) (es fs : List Instance) → passing t (es ++ fs) ≡ passing t es + passing t fs
passing_more t es fs = ap length (filter-append t es fs) ∙ length-append (filter t es) (filter t fs)

passing_alike : (t u : Instance → Bool) (f : Instance → Instance) (es : List Instance) → All (λ e. u (f e) ≡ t e) es → passing u (map f es) ≡ passing t es
passing_alike t u f [] h = refl
passing_alike t u f (e ∷ es) h = by (u (f e)) (t e) (All-head (λ e. u (f e) ≡ t e) e es h) (passing_alike t u f es (All-tail (λ e. u (f e) ≡ t e) e es h))
  where
    by : (b c : Bool) → b ≡ c → passing u (map f es) ≡ passing t es → length (cond b (f e ∷ filter u (map f es)) (filter u (map f es))) ≡ length (cond c (e ∷ filter t es) (filter t es))
    by true true g ih = ap suc ih
    by false false g ih = ih
    by true false g ih = absurd (not_both (sym g) refl)
    by false true g ih = absurd (not_both g refl)

passing_none : (t : Instance → Bool) (es : List Instance) → All (λ e. t e ≡ false) es → passing t es ≡ 0
passing_none t [] h = refl
passing_none t (e ∷ es) h = rw (All-head (λ e. t e ≡ false) e es h) (passing_none t es (All-tail (λ e. t e ≡ false) e es h))

-- the items of a list, each in a list of its own
singles : (f : ℕ → Instance) (ks : List ℕ) → map f ks ≡ flat_map (λ k. f k ∷ []) ks
singles f [] = refl
singles f (k ∷ ks) = ap (λ es. f k ∷ es) (singles f ks)

-- ---- over lines
-- line i stands for the items at k + i of one list, and if it is live for those at its rank, from b on, of the other
record AreAlike (f g : ℕ → ℕ) (k b : ℕ) (ls : List Line) : Type 0 where
  live : (i j a : ℕ) → (line_at ls i).live ≡ true → j ≡ k + i → a ≡ b + rank ls i → g a ≡ f j
  dead : (i j : ℕ) → (line_at ls i).live ≡ false → j ≡ k + i → f j ≡ 0

after_live : (f g : ℕ → ℕ) (k b : ℕ) (y : Line) (ls : List Line) → y.live ≡ true → AreAlike f g k b (y ∷ ls) → AreAlike f g (k + 1) (b + 1) ls
after_live f g k b y ls on h = record {
  live = λ i j a l e d. h.live (suc i) j a l (omega (arith, e)) (let r = rank-live y ls i on in omega (arith, d, r));
  dead = λ i j l e. h.dead (suc i) j l (omega (arith, e));
}

after_dead : (f g : ℕ → ℕ) (k b : ℕ) (y : Line) (ls : List Line) → y.live ≡ false → AreAlike f g k b (y ∷ ls) → AreAlike f g (k + 1) b ls
after_dead f g k b y ls off h = record {
  live = λ i j a l e d. h.live (suc i) j a l (omega (arith, e)) (let r = rank-dead y ls i off in omega (arith, d, r));
  dead = λ i j l e. h.dead (suc i) j l (omega (arith, e));
}

module _ (t u : Instance → Bool) (f g : ℕ → List Instance) where
  abbrev Alike : ℕ → ℕ → List Line → Type 0
  Alike k b ls = AreAlike (λ i. passing t (f i)) (λ a. passing u (g a)) k b ls

  over_lines : (k b : ℕ) (ls : List Line) → Alike k b ls → passing u (flat_map g (range_with_len b (length (live_ids_from k ls)))) ≡ passing t (flat_map f (range_with_len k (length ls)))
  over_lines k b [] h = refl
  over_lines k b (y ∷ ls) h = by y.live refl (λ c. over_lines (k + 1) c ls) ∙ sym (passing_more t (f k) (flat_map f (range_with_len (k + 1) (length ls))))
    where
      by : (on : Bool) → y.live ≡ on
          → ((c : ℕ) → Alike (k + 1) c ls → passing u (flat_map g (range_with_len c (length (live_ids_from (k + 1) ls)))) ≡ passing t (flat_map f (range_with_len (k + 1) (length ls))))
          → passing u (flat_map g (range_with_len b (length (id_if on k (live_ids_from (k + 1) ls))))) ≡ passing t (f k) + passing t (flat_map f (range_with_len (k + 1) (length ls)))
      by true e ih = passing_more u (g b) (flat_map g (range_with_len (b + 1) (length (live_ids_from (k + 1) ls))))
          ∙ ap₂ ◌+◌ (let r = rank-zero (y ∷ ls) in h.live 0 k b e (omega arith) (omega (arith, r))) (ih (b + 1) (after_live (λ i. passing t (f i)) (λ a. passing u (g a)) k b y ls e h))
      by false e ih = let none = h.dead 0 k e (omega arith) in let rest = ih b (after_dead (λ i. passing t (f i)) (λ a. passing u (g a)) k b y ls e h) in omega (arith, none, rest)

-- ---- over rules
module _ (old : Open) (p : Sparse) (new : Open) (q : Sparse) (l : IsLeft p q) (a : AreOpenAlike old p new) where
  not_enabled : (e : Instance) → (enabled_on p e ≡ true → ⊥) → enabled_on p e ≡ false
  not_enabled e none = by (enabled_on p e) refl
    where
      by : (b : Bool) → enabled_on p e ≡ b → b ≡ false
      by true on = absurd (none on)
      by false on = refl

  ids_left : (kind : Rule) → id_count q kind ≡ length (live_ids (lines_of p kind))
  ids_left kind = by (is_of_rows kind)
    where
      by : (b : Bool) → (if b then length q.matrix.rows else length q.matrix.columns) ≡ length (live_ids (if b then p.matrix.rows else p.matrix.columns))
      by true = l.rows
      by false = l.columns

  ids_all : (kind : Rule) → length (lines_of p kind) ≡ id_count p kind
  ids_all kind = by (is_of_rows kind)
    where
      by : (b : Bool) → length (if b then p.matrix.rows else p.matrix.columns) ≡ (if b then length p.matrix.rows else length p.matrix.columns)
      by true = refl
      by false = refl

  -- a rule that does not go by groups
  module _ (kind : Rule) (i : ℕ) (single : goes_by_groups kind ≡ false) where
    alone_live : (line_at (lines_of p kind) i).live ≡ true → passing (enabled_on q) (instances_from new q kind (rank (lines_of p kind) i)) ≡ passing (enabled_on p) (instances_from old p kind i)
    alone_live h = ap (passing (enabled_on q)) (instances_stand old p new q l.stands a kind i single h)
        ∙ passing_alike (enabled_on p) (enabled_on q) (instance_at (new_ids p)) (instances_from old p kind i)
        (λ k d m. let e = get_or (instances_from old p kind i) k d in enabled_stands (new_ids p) p q l.stands e ((instances_at_line old p kind i single k d m).0 h))

    alone_dead : (line_at (lines_of p kind) i).live ≡ false → passing (enabled_on p) (instances_from old p kind i) ≡ 0
    alone_dead h = passing_none (enabled_on p) (instances_from old p kind i)
        (λ k d m. let e = get_or (instances_from old p kind i) k d in not_enabled e (λ on. not_both ((instances_at_line old p kind i single k d m).1 (there_where_enabled p e on)) h))

  -- a rule that goes by groups: its instances with a first line, counted over all second ones
  module _ (kind : Rule) (i : ℕ) (groups : goes_by_groups kind ≡ true) where
    abbrev lines : List Line
    lines = lines_of p kind

    abbrev at_two : ℕ → List Instance
    at_two k = beside_at kind i k ∷ []

    abbrev at_new_two : ℕ → List Instance
    at_new_two b = beside_at kind (rank lines i) b ∷ []

    second_live : (k : ℕ) → (line_at lines i).live ≡ true → (line_at lines k).live ≡ true → passing (enabled_on q) (at_new_two (rank lines k)) ≡ passing (enabled_on p) (at_two k)
    second_live k h g = let e = beside_at kind i k in
        ap (λ (x : Instance). passing (enabled_on q) (x ∷ [])) (groups_stand p kind i k groups)
        ∙ passing_alike (enabled_on p) (enabled_on q) (instance_at (new_ids p)) (e ∷ [])
        (all_one (λ e. enabled_on q (instance_at (new_ids p) e) ≡ enabled_on p e) e (enabled_stands (new_ids p) p q l.stands e ((groups_at_lines p kind i k groups).0 (h, g))))

    -- one is enabled only where both lines are live
    two_dead : (k : ℕ) → (((line_at lines i).live ≡ true) × ((line_at lines k).live ≡ true) → ⊥) → enabled_on p (beside_at kind i k) ≡ false
    two_dead k none = let e = beside_at kind i k in not_enabled e (λ on. none ((groups_at_lines p kind i k groups).1 (there_where_enabled p e on)))

    second_dead : (k : ℕ) → (line_at lines k).live ≡ false → passing (enabled_on p) (at_two k) ≡ 0
    second_dead k h = passing_none (enabled_on p) (at_two k) (all_one (λ e. enabled_on p e ≡ false) (beside_at kind i k) (two_dead k (λ on. not_both on.1 h)))

    groups_live : (line_at lines i).live ≡ true → passing (enabled_on q) (instances_from new q kind (rank lines i)) ≡ passing (enabled_on p) (instances_from old p kind i)
    groups_live h =
        ap (passing (enabled_on q)) (groups_from new q kind (rank lines i) groups ∙ singles (beside_at kind (rank lines i)) (all_ids q kind))
        ∙ ap (λ (n : ℕ). passing (enabled_on q) (flat_map at_new_two (range_with_len 0 n))) (ids_left kind)
        ∙ over_lines (enabled_on p) (enabled_on q) at_two at_new_two 0 0 lines (record {
          live = λ k j b g e d. ap (λ x. passing (enabled_on q) (at_new_two x)) (omega (arith, d)) ∙ second_live k h g ∙ ap (λ x. passing (enabled_on p) (at_two x)) (omega (arith, e));
          dead = λ k j g e. ap (λ x. passing (enabled_on p) (at_two x)) (omega (arith, e)) ∙ second_dead k g;
        })
        ∙ ap (λ (n : ℕ). passing (enabled_on p) (flat_map at_two (range_with_len 0 n))) (ids_all kind)
        ∙ sym (ap (passing (enabled_on p)) (groups_from old p kind i groups ∙ singles (beside_at kind i) (all_ids p kind)))

    groups_dead : (line_at lines i).live ≡ false → passing (enabled_on p) (instances_from old p kind i) ≡ 0
    groups_dead h =
        let ks : List ℕ = all_ids p kind in
        ap (passing (enabled_on p)) (groups_from old p kind i groups)
        ∙ passing_none (enabled_on p) (map (beside_at kind i) ks) (All-map (λ e. enabled_on p e ≡ false) (beside_at kind i) ks (λ k d m. two_dead (get_or ks k d) (λ on. not_both on.0 h)))

  at_live : (kind : Rule) (i : ℕ) → (line_at (lines_of p kind) i).live ≡ true → passing (enabled_on q) (instances_from new q kind (rank (lines_of p kind) i)) ≡ passing (enabled_on p) (instances_from old p kind i)
  at_live kind i h = by (goes_by_groups kind) refl
    where
      by : (b : Bool) → goes_by_groups kind ≡ b → passing (enabled_on q) (instances_from new q kind (rank (lines_of p kind) i)) ≡ passing (enabled_on p) (instances_from old p kind i)
      by true g = groups_live kind i g h
      by false g = alone_live kind i g h

  at_dead : (kind : Rule) (i : ℕ) → (line_at (lines_of p kind) i).live ≡ false → passing (enabled_on p) (instances_from old p kind i) ≡ 0
  at_dead kind i h = by (goes_by_groups kind) refl
    where
      by : (b : Bool) → goes_by_groups kind ≡ b → passing (enabled_on p) (instances_from old p kind i) ≡ 0
      by true g = groups_dead kind i g h
      by false g = alone_dead kind i g h

  of_rule : (kind : Rule) → passing (enabled_on q) (instances_at new q kind (all_ids q kind)) ≡ passing (enabled_on p) (instances_at old p kind (all_ids p kind))
  of_rule kind =
      ap (λ (n : ℕ). passing (enabled_on q) (instances_at new q kind (range_with_len 0 n))) (ids_left kind)
      ∙ over_lines (enabled_on p) (enabled_on q) (instances_from old p kind) (instances_from new q kind) 0 0 (lines_of p kind) (record {
        live = λ i j b h e d. ap (λ x. passing (enabled_on q) (instances_from new q kind x)) (omega (arith, d)) ∙ at_live kind i h ∙ ap (λ x. passing (enabled_on p) (instances_from old p kind x)) (omega (arith, e));
        dead = λ i j h e. ap (λ x. passing (enabled_on p) (instances_from old p kind x)) (omega (arith, e)) ∙ at_dead kind i h;
      })
      ∙ ap (λ (n : ℕ). passing (enabled_on p) (instances_at old p kind (range_with_len 0 n))) (ids_all kind)

  of_rules : (rules : List Rule) → passing (enabled_on q) (all_of new q rules) ≡ passing (enabled_on p) (all_of old p rules)
  of_rules [] = refl
  of_rules (kind ∷ rules) = passing_more (enabled_on q) (instances_at new q kind (all_ids q kind)) (all_of new q rules)
      ∙ ap₂ ◌+◌ (of_rule kind) (of_rules rules)
      ∙ sym (passing_more (enabled_on p) (instances_at old p kind (all_ids p kind)) (all_of old p rules))

  pub skipped_same : skipped_on new q ≡ skipped_on old p
  skipped_same = of_rules reduction_order
