use Rattle.std.proofs.Common.{◌≡◌, ◌+◌, ◌/◌, ◌%◌, ◌++◌, ◌∷◌, [], ℕ, List, length, arith, ap, sym, ◌∙◌, append_assoc}
use Rattle.std.proofs.lemmas.List.{length-append}
use Rattle.std.specs.Fmt.{decimal}
use Rattle.number_texts.proofs.DigitLaws.{two_more, two_digits_less}
use Rattle.number_texts.proofs.naturals.+put_digits.Goals as goal

pub put_two-requires-2-clause-room : goal.put_two-requires-2-clause-room
put_two-requires-2-clause-room t c =
    let n : ℕ = c.args.number in
    let less : length (decimal n) ≡ length (decimal (n / 100)) + 2 = two_digits_less n c.if-number-lt100.false c.ranges.number.fits in
    let long : length c.put_digits.new.out.items ≡ length c.args.out.now.items + length (decimal (n / 100)) = ap length c.put_digits.ensures.digits ∙ length-append c.args.out.now.items (decimal (n / 100)) in
    omega (arith, less, long, c.requires, c.put_digits.ensures.room)

pub returns-clause-digits : goal.returns-clause-digits
returns-clause-digits t c =
    let n : ℕ = c.args.number in
    let last : List ℕ = (48 + n % 100 / 10) ∷ (48 + n % 100 % 10) ∷ [] in
    c.put_two-2.ensures.digits
    ∙ ap (λ xs. xs ++ last) c.put_digits.ensures.digits
    ∙ append_assoc c.args.out.now.items (decimal (n / 100)) last
    ∙ ap (λ xs. c.args.out.now.items ++ xs) (sym (two_more n c.if-number-lt100.false c.ranges.number.fits))
