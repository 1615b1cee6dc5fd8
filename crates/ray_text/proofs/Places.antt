-- What is held of names after weights were given to one of them.
use Rattle.std.proofs.Common.{◌≡◌, ◌≢◌, ℕ, zero, suc, ◌<◌, List, [], ◌∷◌, length, get_or, Bool, true, false, cond, Option, Some, None, Ok, Err, refl, sym, ap, ap₂, ◌∙◌, subst, arith, map, replicate}
use Rattle.std.specs.Prelude.{All, is_some, is_none, ◌||◌}
use Rattle.std.proofs.Math.ListN.{set}
use Rattle.std.specs.Str.{bytes_eq}
use Rattle.std.proofs.lemmas.List.{get_or-map, length-map}
use Rattle.std.proofs.lemmas.List.Elements.{All-head, All-tail}
use Rattle.std.proofs.lemmas.Slice.Eq.{bytes_eq-Decides}
use Rattle.fractions.specs.Number.{Number}
use Rattle.fractions.specs.declared.Numbers.TheVariants.{Fractions}
use Rattle.names.specs.Names.{place}
use Rattle.number_texts.specs.Read.{read_of}
use Rattle.lp_model.specs.Names.{Differ, names_of_rows, names_of_columns}
use Rattle.lp_model.specs.ProgramData.{ProgramData}
use Rattle.lp_rays.specs.RayData.{RayData, IsSized}
use Rattle.mps_profile.specs.Texts.{Text}
use Rattle.point_text.specs.Faults.{is_past, is_bad}
use Rattle.point_text.specs.declared.faults.SolFaultKind.{SolFaultKind}
use Rattle.point_text.specs.declared.faults.SolFaultKind.TheVariants.{UnknownName, TwiceNamed, NumberPast, BadNumber}
use Rattle.point_text.specs.declared.faults.SolError.{SolError}
use Rattle.point_text.specs.declared.faults.SolError.TheVariants.{Fault, NoMemory}
use Rattle.ray_text.specs.declared.weights.EndWeights.{EndWeights}
use Rattle.ray_text.specs.declared.reading.Reading.{Reading}
use Rattle.ray_text.specs.RayLines.{Giving}
use Rattle.ray_text.specs.Given.{of_rows, of_columns, given, weights_in, weights_or_none}
use Rattle.ray_text.specs.Faults.{giving_fault, weights_result}
use Rattle.ray_text.specs.Reading.{said, lower_of, upper_of, ray_in, IsRayRead}
use Rattle.ray_text.specs.Holding.{TookAll}
use Rattle.ray_text.proofs.NameTables.{head_differs, rest_differs, name_at}

differ_by : (name other : Text) (b : Bool) → name ≢ other → bytes_eq name other ≡ b → b ≡ false
differ_by name other true apart is = absurd (apart ((bytes_eq-Decides name other).0 is))
differ_by name other false apart is = refl

pub differ : (name other : Text) → name ≢ other → bytes_eq name other ≡ false
differ name other apart = differ_by name other (bytes_eq name other) apart refl

pub same : (name : Text) → bytes_eq name name ≡ true
same name = (bytes_eq-Decides name name).1 refl

-- a name that a line gives weights to, and another one
pub given_here : (before : List Giving) (g : Giving) (name : Text) → g.name ≡ name → given (g ∷ before) name ≡ Some (weights_in g)
given_here before g name is = ap (λ (b : Bool). cond b (Some (weights_in g)) (given before name)) ((bytes_eq-Decides g.name name).1 is)

pub given_elsewhere : (before : List Giving) (g : Giving) (name : Text) → g.name ≢ name → given (g ∷ before) name ≡ given before name
given_elsewhere before g name apart = ap (λ (b : Bool). cond b (Some (weights_in g)) (given before name)) (differ g.name name apart)

none_of : (names : List Text) (before : List Giving) (g : Giving) → All (λ other. g.name ≢ other) names → map (given before) names ≡ map (given (g ∷ before)) names
none_of [] before g apart = refl
none_of (name ∷ names) before g apart =
    ap₂ (λ (o : Option EndWeights) (os : List (Option EndWeights)). o ∷ os) (sym (given_elsewhere before g name (All-head (λ other. g.name ≢ other) name names apart)))
    (none_of names before g (All-tail (λ other. g.name ≢ other) name names apart))

pub put_place : (names : List Text) (id : ℕ) (before : List Giving) (g : Giving) → Differ names → id < length names → g.name ≡ get_or names id []
    → set (map (given before) names) id (Some (weights_in g)) ≡ map (given (g ∷ before)) names
put_place [] id before g apart within is = absurd (omega (arith, within))
put_place (name ∷ names) zero before g apart within is =
    ap₂ (λ (o : Option EndWeights) (os : List (Option EndWeights)). o ∷ os) (sym (given_here before g name is))
    (none_of names before g (subst (λ (n : Text). All (λ other. n ≢ other) names) (sym is) (head_differs name names apart)))
put_place (name ∷ names) (suc id) before g apart within is =
    ap₂ (λ (o : Option EndWeights) (os : List (Option EndWeights)). o ∷ os)
    (sym (given_elsewhere before g name (λ same. head_differs name names apart id [] (omega (arith, within)) (sym same ∙ is))))
    (put_place names id before g (rest_differs name names apart) (omega (arith, within)) is)

-- what is held at the place of a name
pub held_at : (names : List Text) (before : List Giving) (name : Text) (id : ℕ) (weights : List (Option EndWeights)) (o d : Option EndWeights) → weights ≡ map (given before) names → place name names ≡ Some id
    → o ≡ get_or weights id d → o ≡ given before name
held_at names before name id weights o d held here is =
    let there = name_at name names id here in
    is ∙ ap (λ (ws : List (Option EndWeights)). get_or ws id d) held ∙ get_or-map (given before) names id [] d there.0 ∙ ap (given before) (sym there.1)

-- ---- the faults of a line
pub told_unknown : (names : List Text) (before : List Giving) (g : Giving) → place g.name names ≡ None → giving_fault names before g ≡ Some UnknownName
told_unknown names before g none = rw none refl

pub told_twice : (names : List Text) (before : List Giving) (g : Giving) (id : ℕ) → place g.name names ≡ Some id → is_some (given before g.name) ≡ true → giving_fault names before g ≡ Some TwiceNamed
told_twice names before g id here twice = rw (here, twice) refl

abbrev pub past_in : Giving → Bool
past_in g = is_past (read_of Fractions g.lower) || is_past (read_of Fractions g.upper)

abbrev pub bad_in : Giving → Bool
bad_in g = is_bad (read_of Fractions g.lower) || is_bad (read_of Fractions g.upper)

-- a line whose name is known and new has the fault of its numbers
told_numbers : (names : List Text) (before : List Giving) (g : Giving) (id : ℕ) → place g.name names ≡ Some id → is_some (given before g.name) ≡ false
    → giving_fault names before g ≡ cond (past_in g) (Some NumberPast) (cond (bad_in g) (Some BadNumber) None)
told_numbers names before g id here new = rw (here, new) refl

none_by : (o : Option ℕ) → is_some o ≡ true → is_none o ≡ false
none_by None is = cc
none_by (Some k) is = refl

pub fault_of_numbers : (names : List Text) (before : List Giving) (g : Giving) → is_some (place g.name names) ≡ true → is_some (given before g.name) ≡ false → past_in g ≡ false → bad_in g ≡ false
    → giving_fault names before g ≡ None
fault_of_numbers names before g known new past bad = rw (none_by (place g.name names) known, new, past, bad) refl

err_by : (past bad : Bool) (w : EndWeights) (kind : SolFaultKind) → cond past (Err NumberPast) (cond bad (Err BadNumber) (Ok w)) ≡ Err kind
    → cond past (Some NumberPast) (cond bad (Some BadNumber) None) ≡ Some kind
err_by true bad w kind is = let e : NumberPast ≡ kind = cc in ap Some e
err_by false true w kind is = let e : BadNumber ≡ kind = cc in ap Some e
err_by false false w kind is = cc

ok_by : (past bad : Bool) (w v : EndWeights) → cond past (Err NumberPast) (cond bad (Err BadNumber) (Ok w)) ≡ Ok v
    → (cond past (Some NumberPast) (cond bad (Some BadNumber) None) ≡ None) × (w ≡ v)
ok_by true bad w v is = cc
ok_by false true w v is = cc
ok_by false false w v is = (refl, cc)

pub told_bad : (names : List Text) (before : List Giving) (g : Giving) (id : ℕ) (kind : SolFaultKind) → place g.name names ≡ Some id → is_some (given before g.name) ≡ false
    → Err kind ≡ weights_result (read_of Fractions g.lower) (read_of Fractions g.upper) → giving_fault names before g ≡ Some kind
told_bad names before g id kind here new is = told_numbers names before g id here new ∙ err_by (past_in g) (bad_in g) (weights_in g) kind (sym is)

pub told_none : (names : List Text) (before : List Giving) (g : Giving) (id : ℕ) (v : EndWeights) → place g.name names ≡ Some id → is_some (given before g.name) ≡ false
    → Ok v ≡ weights_result (read_of Fractions g.lower) (read_of Fractions g.upper) → (giving_fault names before g ≡ None) × (weights_in g ≡ v)
told_none names before g id v here new is =
    let by = ok_by (past_in g) (bad_in g) (weights_in g) v (sym is) in (told_numbers names before g id here new ∙ by.0, by.1)

-- ---- at the start, and at the end
pub none_held : (names : List Text) (n : ℕ) → n ≡ length names → replicate n None ≡ map (given []) names
none_held names n is = ap (λ (k : ℕ). replicate k None) is ∙ each names
  where
    each : (ns : List Text) → replicate (length ns) None ≡ map (given []) ns
    each [] = refl
    each (name ∷ ns) = ap (λ (os : List (Option EndWeights)). None ∷ os) (each ns)

map_twice : (f : Option EndWeights → Number) (gs : List Giving) (names : List Text) → map f (map (given gs) names) ≡ map (λ name. f (given gs name)) names
map_twice f gs [] = refl
map_twice f gs (name ∷ names) = ap (λ (xs : List Number). f (given gs name) ∷ xs) (map_twice f gs names)

pub lower_held : (names : List Text) (gs : List Giving) (weights : List (Option EndWeights)) (xs : List Number) → weights ≡ map (given gs) names → xs ≡ map (λ o. (weights_or_none o).lower) weights → xs ≡ lower_of names gs
lower_held names gs weights xs held is = is ∙ ap (map (λ o. (weights_or_none o).lower)) held ∙ map_twice (λ o. (weights_or_none o).lower) gs names

pub upper_held : (names : List Text) (gs : List Giving) (weights : List (Option EndWeights)) (xs : List Number) → weights ≡ map (given gs) names → xs ≡ map (λ o. (weights_or_none o).upper) weights → xs ≡ upper_of names gs
upper_held names gs weights xs held is = is ∙ ap (map (λ o. (weights_or_none o).upper)) held ∙ map_twice (λ o. (weights_or_none o).upper) gs names

pub ray_same : (r : RayData) (s t p q x y z w : List Number) → r ≡ record { lower_sides = s; upper_sides = t; lower_bounds = p; upper_bounds = q } → s ≡ x → t ≡ y → p ≡ z → q ≡ w
    → r ≡ record { lower_sides = x; upper_sides = y; lower_bounds = z; upper_bounds = w }
ray_same r s t p q x y z w is es et ep eq = rw (← es, ← et, ← ep, ← eq) is

-- what is told of a text
pub told : (rows columns : List Text) (text : List ℕ) (reading : Reading) (error : SolError) → TookAll {T = Unit {0}} rows columns text (Err error) reading → IsRayRead rows columns text (Err error)
told rows columns text reading (Fault fault) took = took
told rows columns text reading NoMemory took = tt

pub one_each : (p : ProgramData) (text : List ℕ) (r : RayData) → r ≡ ray_in (names_of_rows p.rows) (names_of_columns p.columns) text → IsSized (length p.rows) (length p.columns) r
one_each p text r is = subst (IsSized (length p.rows) (length p.columns)) (sym is) (record {
  lower_sides = rows_each (λ name. (weights_or_none (given (of_rows (said text)) name)).lower);
  upper_sides = rows_each (λ name. (weights_or_none (given (of_rows (said text)) name)).upper);
  lower_bounds = columns_each (λ name. (weights_or_none (given (of_columns (said text)) name)).lower);
  upper_bounds = columns_each (λ name. (weights_or_none (given (of_columns (said text)) name)).upper);
})
  where
    rows_each : (f : Text → Number) → length (map f (names_of_rows p.rows)) ≡ length p.rows
    rows_each f = rw (length-map, length-map) refl

    columns_each : (f : Text → Number) → length (map f (names_of_columns p.columns)) ≡ length p.columns
    columns_each f = rw (length-map, length-map) refl
