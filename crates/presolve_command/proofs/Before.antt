-- What holds of the writes since a read holds since before the read.
use Rattle.std.proofs.Common.{◌≡◌, ℕ, List, inl, inr, subst}
use Rattle.file_ports.specs.Ports.{Moment, Told, NeverFall, KeepsOthers, Unsettled, Written}
use Rattle.endings.specs.Moments.{KeepsAllBut}
use Rattle.endings.proofs.Earlier.{rose_earlier}
use Rattle.presolve_command.specs.Presolved.{FailsAt, FailsBetween}

pub fails_at_earlier : (name : List ℕ) (before between now : Moment) → between.told ≡ before.told → NeverFall before.writes between.writes
    → FailsAt name between now → FailsAt name before now
fails_at_earlier name before between now same stays f =
    (rose_earlier _ _ _ (stays name) f.0, subst (λ (t : List ℕ → Told). Unsettled (t name) (now.told name)) same f.1)

pub fails_earlier : (first text second : List ℕ) (before between now : Moment) → between.told ≡ before.told → NeverFall before.writes between.writes
    → FailsBetween first text second between now → FailsBetween first text second before now
fails_earlier first text second before between now same stays (inl f) =
    inl (subst (λ t. KeepsOthers t now.told first) same f.0, fails_at_earlier first before between now same stays f.1)
fails_earlier first text second before between now same stays (inr f) =
    inr (
      subst (λ (t : List ℕ → Told). Written (t first) (now.told first) text) same f.0,
      fails_at_earlier second before between now same stays f.1,
      subst (λ t. KeepsAllBut t now.told first second) same f.2,
    )

pub written_earlier : (name text : List ℕ) (before between now : Moment) → between.told ≡ before.told
    → Written (between.told name) (now.told name) text → Written (before.told name) (now.told name) text
written_earlier name text before between now same h = subst (λ (t : List ℕ → Told). Written (t name) (now.told name) text) same h

pub others_earlier : (first second : List ℕ) (before between now : Moment) → between.told ≡ before.told
    → KeepsAllBut between.told now.told first second → KeepsAllBut before.told now.told first second
others_earlier first second before between now same h = subst (λ t. KeepsAllBut t now.told first second) same h

pub only_earlier : (name : List ℕ) (before between now : Moment) → between.told ≡ before.told → KeepsOthers between.told now.told name → KeepsOthers before.told now.told name
only_earlier name before between now same h = subst (λ t. KeepsOthers t now.told name) same h
