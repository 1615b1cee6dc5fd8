-- Texts that are refused one after the other, and what is said of them.
use Rattle.std.proofs.Common.{◌≡◌, ◌≢◌, ◌⊎◌, inl, inr, ℕ, ◌<◌, ◌≤◌, ◌==◌, Bool, List, length, Option, Some, None, sym, ap, ◌∙◌, subst, arith}
use Rattle.std.proofs.lemmas.Bool.{cases_eq, eq-eqb, ne_eqb}
use Rattle.file_ports.specs.Ports.{IsLonger, Told}
use Rattle.endings.specs.Ending.{When}
use Rattle.endings.specs.Moments.{Reads}

-- ---- what is said by a status
pub either : {A B C : Type 0} → A ⊎ B → (A → C) → (B → C) → C
either (inl a) f g = f a
either (inr b) f g = g b

pub at_status : (s k : ℕ) (P Q : Type 0) → When (s == k) P Q → ((s ≡ k) × P) ⊎ Q
at_status s k P Q w = by (cases_eq s k)
  where
    by : (s ≡ k) ⊎ (s ≢ k) → ((s ≡ k) × P) ⊎ Q
    by (inl e) = inl (e, subst (λ (b : Bool). When b P Q) (eq-eqb s k e) w)
    by (inr n) = inr (subst (λ (b : Bool). When b P Q) (ne_eqb s k n) w)

-- ---- held bytes
pub read_held : (limit : ℕ) (told : Told) (held : List ℕ) (P : List ℕ → Type 0) → told ≡ Some (Some held) → Reads limit told P → (length held ≤ limit) × P held
read_held limit told held P is h = subst (λ (t : Told). Reads limit t P) is h

pub longer_held : (limit : ℕ) (told : Told) (held : List ℕ) → told ≡ Some (Some held) → IsLonger told limit → limit < length held
longer_held limit told held is h = subst (λ (t : Told). IsLonger t limit) is h

-- ---- a text that is refused: it is longer than is read, or has a fault
module _ {K : Type 0} (limit : ℕ) (bytes over : List ℕ) (fault : Option K) (line : K → List ℕ) where
  abbrev pub Refused : List ℕ → Type 0
  Refused said = ((limit < length bytes) × (said ≡ over)) ⊎ ((length bytes ≤ limit) × ((k : K) × (fault ≡ Some k) × (said ≡ line k)))

  -- or it is not, and more is said
  abbrev pub Layer : ℕ → ℕ → List ℕ → Type 0 → Type 0
  Layer code s said Rest = ((s ≡ code) × Refused said) ⊎ ((length bytes ≤ limit) × (fault ≡ None) × Rest)

  some_same : (k q : K) → Some k ≡ Some q → k ≡ q
  some_same k q e = cc

  refused_same : (said more : List ℕ) → Refused said → Refused more → said ≡ more
  refused_same said more (inl a) (inl b) = a.1 ∙ sym b.1
  refused_same said more (inl a) (inr b) = absurd (let l = a.0 in let g = b.0 in omega (arith, l, g))
  refused_same said more (inr a) (inl b) = absurd (let l = b.0 in let g = a.0 in omega (arith, l, g))
  refused_same said more (inr (l, (k, e, f))) (inr (m, (q, g, h))) = f ∙ ap line (some_same k q (sym e ∙ g)) ∙ sym h

  not_refused : (said : List ℕ) → Refused said → length bytes ≤ limit → fault ≡ None → ⊥
  not_refused said (inl a) l n = let m = a.0 in omega (arith, m, l)
  not_refused said (inr (l, (k, e, f))) m n = let g : None ≡ Some k = sym n ∙ e in cc

  -- what is said of the text is one, if what is said after it is
  pub layer_same : {R S : Type 0} (code s t : ℕ) (said more : List ℕ) → Layer code s said R → Layer code t more S → (R → S → (s ≡ t) × (said ≡ more)) → (s ≡ t) × (said ≡ more)
  layer_same code s t said more (inl a) (inl b) f = (a.0 ∙ sym b.0, refused_same said more a.1 b.1)
  layer_same code s t said more (inl a) (inr b) f = absurd (not_refused said a.1 b.0 b.1)
  layer_same code s t said more (inr a) (inl b) f = absurd (not_refused more b.1 a.0 a.1)
  layer_same code s t said more (inr a) (inr b) f = f a.2 b.2
