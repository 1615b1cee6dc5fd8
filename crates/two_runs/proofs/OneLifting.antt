-- What records make of a point, or of a point with duals, is one.
use Rattle.std.proofs.Common.{◌≡◌, ◌⊎◌, inl, inr, ℕ, pred, ◌<◌, ◌≤◌, List, drop, Option, Some, None, sym, refl, ap, ◌∙◌, arith}
use Rattle.std.proofs.lemmas.Bool.{cases_lt}
use Rattle.fractions.specs.Number.{Number}
use Rattle.fractions.specs.Room.{Room}
use Rattle.lp_model.specs.LinearProgram.{LinearProgram}
use Rattle.lp_model.specs.Meaning.{meaning}
use Rattle.lp_model.specs.ProgramData.{ProgramData}
use Rattle.lp_model.specs.Reductions.{Priced}
use Rattle.lp_model.specs.Vectors.{Vector, vector_of}
use Rattle.lp_prices.specs.Prices.{ReducedCostsFitIn}
use Rattle.undo_records.specs.Postsolve.{Postsolve}
use Rattle.undo_records.specs.Room.{LiftFits, StopsAt}
use Rattle.undo_records.specs.declared.undo.Undo.{Undo}
use Rattle.undo_pairs.specs.Numbers.{started}
use Rattle.postsolve_dual.specs.PairRoom.{IsFirstPast, LiftPairFits, PairStopsAt}
use Rattle.postsolve_command.specs.Lifted.{IsLift, IsLifted, IsPairLift, point_at, Stops, stop_text, unpriced_text}
use Rattle.told_rays.proofs.FirstStop.{one_stop, room_drop}
use Rattle.told_rays.proofs.SameNumbers.{numbers_same}

-- ---- records that are undone on a point, and on a pair
module _ (m : Room) (x : Vector) where
  fits_drop : (us : List Undo) (b : ℕ) → LiftFits m us x → LiftFits m (drop b us) x
  fits_drop us b h = room_drop (λ (vs : List Undo). LiftFits m vs x) tt (λ u vs k. k.0) us b h

  stop_same : (us : List Undo) (a b : ℕ) → StopsAt m us x a → StopsAt m us x b → a ≡ b
  stop_same us a b s t = one_stop (λ (vs : List Undo). LiftFits m vs x) tt (λ u vs h. h.0) us a b (s.after, s.here) (t.after, t.here)

module _ (m : Room) (p : Priced) where
  pair_drop : (us : List Undo) (b : ℕ) → LiftPairFits m us p → LiftPairFits m (drop b us) p
  pair_drop us b h = room_drop (λ (vs : List Undo). LiftPairFits m vs p) tt (λ u vs k. k.0) us b h

  pair_stop_same : (us : List Undo) (a b : ℕ) → PairStopsAt m us p a → PairStopsAt m us p b → a ≡ b
  pair_stop_same us a b s t = one_stop (λ (vs : List Undo). LiftPairFits m vs p) tt (λ u vs h. h.0) us a b (s.after, s.here) (t.after, t.here)

-- ---- the first reduced cost without room
first_same : (m : Room) (M : LinearProgram) (y : Vector) (j k : ℕ) → IsFirstPast m M y j → IsFirstPast m M y k → j ≡ k
first_same m M y j k f g = by (cases_lt j k) (cases_lt k j)
  where
    by : (j < k) ⊎ (k ≤ j) → (k < j) ⊎ (j ≤ k) → j ≡ k
    by (inl l) o = absurd (f.here (g.before j l))
    by (inr n) (inl o) = absurd (g.here (f.before k o))
    by (inr n) (inr o) = omega (arith, n, o)

not_all : (m : Room) (M : LinearProgram) (y : Vector) (j : ℕ) → IsFirstPast m M y j → ReducedCostsFitIn m M y → ⊥
not_all m M y j f all = f.here (all j f.within)

-- ---- the lift
module _ (m : Room) (records : Postsolve) (program : ProgramData) (point : List Number) where
  points_same : (xs ys : List Number) → IsLift m records point xs → IsLift m records point ys → xs ≡ ys
  points_same xs ys a b = numbers_same xs ys (a.size ∙ sym b.size) (a.is ∙ sym b.is)

  pairs_same : (ds xs ys us vs : List Number) → IsPairLift m records program point ds xs us → IsPairLift m records program point ds ys vs → (xs ≡ ys) × (us ≡ vs)
  pairs_same ds xs ys us vs a b = (numbers_same xs ys (a.size ∙ sym b.size) (a.is ∙ sym b.is), numbers_same us vs (a.prices_size ∙ sym b.prices_size) (a.prices_are ∙ sym b.prices_are))

  pub lifted_same : (duals : Option (List Number)) (xs ys : List Number) (us vs : Option (List Number)) → IsLifted m records program point duals xs us → IsLifted m records program point duals ys vs → (xs ≡ ys) × (us ≡ vs)
  lifted_same None xs ys None None a b = (points_same xs ys a b, refl)
  lifted_same None xs ys None (Some vs) a b = absurd b
  lifted_same None xs ys (Some us) vs a b = absurd a
  lifted_same (Some ds) xs ys None vs a b = absurd a
  lifted_same (Some ds) xs ys (Some us) None a b = absurd b
  lifted_same (Some ds) xs ys (Some us) (Some vs) a b = let e = pairs_same ds xs ys us vs a b in (e.0, ap (λ (zs : List Number). Some zs) e.1)

  -- ---- where it stops
  pub stopped_same : (duals : Option (List Number)) (said other : List ℕ) → Stops m records program point duals said → Stops m records program point duals other → said ≡ other
  stopped_same None said other (a, s, e) (b, t, f) = e ∙ ap stop_text (stop_same m (point_at records point) records.undos a b s t) ∙ sym f
  stopped_same (Some ds) said other (inl (j, s, e)) (inl (k, t, f)) = e ∙ ap (unpriced_text program) (first_same m (meaning program) (vector_of ds) j k s t) ∙ sym f
  stopped_same (Some ds) said other (inl (j, s, e)) (inr (all, t)) = absurd (not_all m (meaning program) (vector_of ds) j s all)
  stopped_same (Some ds) said other (inr (all, s)) (inl (k, t, f)) = absurd (not_all m (meaning program) (vector_of ds) k t all)
  stopped_same (Some ds) said other (inr (all, (a, s, e))) (inr (_, (b, t, f))) = e ∙ ap stop_text (pair_stop_same m (started records program point ds) records.undos a b s t) ∙ sym f

  -- ---- never both
  pub lifted_or_stopped : (duals : Option (List Number)) (xs : List Number) (us : Option (List Number)) (said : List ℕ) → IsLifted m records program point duals xs us → Stops m records program point duals said → ⊥
  lifted_or_stopped None xs None said l (a, s, e) = s.here (fits_drop m (point_at records point) records.undos (pred a) l.fits)
  lifted_or_stopped None xs (Some us) said l s = l
  lifted_or_stopped (Some ds) xs None said l s = l
  lifted_or_stopped (Some ds) xs (Some us) said l (inl (j, s, e)) = not_all m (meaning program) (vector_of ds) j s l.priced
  lifted_or_stopped (Some ds) xs (Some us) said l (inr (all, (a, s, e))) = s.here (pair_drop m (started records program point ds) records.undos (pred a) l.fits)
