-- Records whose transactions aren't known have them.
use Rattle.std.proofs.Common.{◌≡◌, ℕ, zero, suc, ◌≤◌, Bool, List, length, replicate, sym, ap, ◌∙◌, subst, arith, All}
use Rattle.std.proofs.lemmas.List.{length-replicate}
use Rattle.std.proofs.lemmas.List.Elements.{All-nil, All-cons}
use Rattle.fractions.specs.Number.{Number}
use Rattle.lp_model.specs.declared.program.Sense.{Sense}
use Rattle.transactions.specs.Transactions.{Transaction, IsPartOf, VersionsBelow, untold}
use Rattle.undo_records.specs.declared.label.Label.{Label}
use Rattle.undo_records.specs.declared.undo.Undo.{Undo}
use Rattle.undo_records.specs.Named.{AreTold}

-- transactions of which nothing is known are of versions below their places, and have read no part of another program
pub untold_below : (place n : ℕ) → 1 ≤ place → VersionsBelow place (replicate n untold)
untold_below place zero l = tt
untold_below place (suc n) l = (l, untold_below (suc place) n (omega arith))

pub untold_parts : (m k n : ℕ) → All (λ t. All (λ r. IsPartOf m k r.part) t.reads) (replicate n untold)
untold_parts m k zero = All-nil (λ (t : Transaction). All (λ r. IsPartOf m k r.part) t.reads)
untold_parts m k (suc n) = All-cons (λ (t : Transaction). All (λ r. IsPartOf m k r.part) t.reads) untold (replicate n untold) (All-nil (λ r. IsPartOf m k r.part)) (untold_parts m k n)

-- records whose transactions aren't known have them
pub unknown_told : (s : Sense) (d : Bool) (cs rs : List Label) (o : Number) (us vs : List Undo) (ts : List Transaction) → vs ≡ us → ts ≡ replicate (length vs) untold
    → AreTold (record { sense = s; duals = d; columns = cs; rows = rs; offset = o; undos = us; transactions = ts })
unknown_told s d cs rs o us vs ts ev et =
    let told : ts ≡ replicate (length us) untold = et ∙ ap (λ (ws : List Undo). replicate (length ws) untold) ev in
    record {
      count = ap length told ∙ length-replicate (length us) untold;
      versions = subst (VersionsBelow 1) (sym told) (untold_below 1 (length us) (omega arith));
      parts = subst (λ (hs : List Transaction). All (λ t. All (λ r. IsPartOf (length rs) (length cs) r.part) t.reads) hs) (sym told) (untold_parts (length rs) (length cs) (length us));
    }
