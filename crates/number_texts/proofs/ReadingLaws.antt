-- What the parts of a text mean.
use Rattle.std.proofs.Common.{◌≡◌, ℕ, ◌+◌, ◌^◌, ◌<◌, ◌≤◌, ℤ, pos, Bool, true, false, cond, ltb, List, Err, Some, arith, sym, ◌∙◌, refl, ap}
use Rattle.std.proofs.lemmas.Bool.{le-ltb, lt-ltb}
use Rattle.fractions.specs.Number.{of_ℤ}
use Rattle.fractions.specs.Lowest.{Fits}
use Rattle.fractions.specs.declared.Numbers.{Numbers}
use Rattle.fractions.specs.Scaled.{scaled}
use Rattle.fractions.proofs.ScalingLaws.{past_up, past_down, scaled-none, scaled-zeros}
use Rattle.number_texts.specs.declared.reading.ReadNumber.TheVariants.{NumberPast}
use Rattle.number_texts.specs.declared.mantissa.Mantissa.{Mantissa}
use Rattle.number_texts.specs.Mantissas.{mantissa_of}
use Rattle.number_texts.specs.Form.{number, significant, Terms, up_of, down_of}
use Rattle.number_texts.specs.Read.{signed, in_range, read_decimal}
use Rattle.number_texts.proofs.MantissaLaws.{mantissa_of-value, mantissa_of-significant}
use Rattle.number_texts.proofs.RangeLaws.{signed-times, size-signed}

pub far_none : (b : Bool) (u w : ℕ) → scaled (signed b 0) u w ≡ of_ℤ (pos 0)
far_none false u w = scaled-none u w
far_none true u w = scaled-none u w

pub far_past : (b below : Bool) (size zeros places e : ℕ) → 0 < size → size < 2 ^ 127 → zeros < 2 ^ 64 → places < 2 ^ 64 → 10 ^ 30 ≤ e
    → Fits (scaled (signed b size) (zeros + cond below 0 e) (places + cond below e 0)) → ⊥
far_past b false size zeros places e p l lz lp far h = past_up (signed b size) (zeros + e) (places + 0) (rw (size-signed b size) p) (omega arith) h
far_past b true size zeros places e p l lz lp far h = past_down (signed b size) (zeros + 0) (places + e) (rw (size-signed b size) p) (rw (size-signed b size) l) (omega arith) h

pub value-is : (b : Bool) (ds : List ℕ) (u w : ℕ) → scaled (signed b (number ds)) u w ≡ scaled (signed b (mantissa_of ds).number) ((mantissa_of ds).zeros + u) w
value-is b ds u w =
    ap (λ (n : ℕ). scaled (signed b n) u w) (sym (mantissa_of-value ds))
    ∙ ap (λ (z : ℤ). scaled z u w) (signed-times b (mantissa_of ds).number (10 ^ (mantissa_of ds).zeros))
    ∙ scaled-zeros (signed b (mantissa_of ds).number) (mantissa_of ds).zeros u w

pub read-past : (numbers : Numbers) (b : Bool) (t : Terms) → ((mantissa_of t.digits).number < 2 ^ 127 → ⊥) → read_decimal numbers b (Some t) ≡ Err NumberPast
unfolding read_decimal
read-past numbers b t h = let e : ltb (significant t.digits) (2 ^ 127) ≡ false = le-ltb _ _ (let k = mantissa_of-significant t.digits in omega arith) in rw e refl

pub read-in : (numbers : Numbers) (b : Bool) (t : Terms) → (mantissa_of t.digits).number < 2 ^ 127
    → read_decimal numbers b (Some t) ≡ in_range numbers (scaled (signed b (mantissa_of t.digits).number) ((mantissa_of t.digits).zeros + up_of t) (down_of t))
unfolding read_decimal
read-in numbers b t h =
    let e : ltb (significant t.digits) (2 ^ 127) ≡ true = lt-ltb _ _ (let k = mantissa_of-significant t.digits in omega arith) in
    rw e (ap (in_range numbers) (value-is b t.digits (up_of t) (down_of t)))

pub read-by : (numbers : Numbers) (b : Bool) (t : Terms) (f : Mantissa) → f ≡ mantissa_of t.digits → (mantissa_of t.digits).number < 2 ^ 127
    → read_decimal numbers b (Some t) ≡ in_range numbers (scaled (signed b f.number) (f.zeros + up_of t) (down_of t))
read-by numbers b t f e h = read-in numbers b t h ∙ ap (λ (g : Mantissa). in_range numbers (scaled (signed b g.number) (g.zeros + up_of t) (down_of t))) (sym e)
