-- Words without gaps, and the lines that they make.
use Rattle.std.proofs.Common.{◌≡◌, ℕ, ◌^◌, ◌<◌, Bool, false, not, ◌||◌, ◌==◌, List, [], ◌∷◌, ◌++◌, refl, ap, ◌∙◌, arith}
use Rattle.std.specs.Prelude.{All}
use Rattle.std.specs.Fmt.{decimal}
use Rattle.std.specs.List.{list_all, AllByRecursion}
use Rattle.std.proofs.lemmas.Bool.{and_from, and_parts, or_parts, not-true}
use Rattle.std.proofs.lemmas.Bool.Decides.{nat_tests}
use Rattle.std.proofs.lemmas.List.{append-nil}
use Rattle.std.proofs.lemmas.List.Splits.{slice_split_at, slice_split_none}
use Rattle.std.proofs.lemmas.List.Elements.{All-nil, All-cons}
use Rattle.fractions.specs.Number.{Number}
use Rattle.fractions.specs.Lowest.{Fits}
use Rattle.number_texts.specs.Written.{written}
use Rattle.number_texts.proofs.Cutting.{None_pass, None_pass-append}
use Rattle.number_texts.proofs.Marks.{IsMark, decimal-marks, written-marks}
use Rattle.record_file.specs.Words.{ratio_word}
use Rattle.record_file.specs.RecordText.{Line, spaced}
use Rattle.record_fields.specs.Words.{words_of}
use Rattle.record_round_trip.proofs.Numerals.{ratio-marks}

-- a space or a line feed
abbrev pub is_gap : ℕ → Bool
is_gap b = (b == 32) || (b == 10)

-- a word has no gaps
abbrev pub Whole : List ℕ → Type 0
Whole w = None_pass is_gap w

pub gap_mark : IsMark is_gap
gap_mark = record { digit = λ c h. grind (arith, nat_tests); minus = refl; point = refl; slash = refl }

pub decimal_whole : (n : ℕ) → n < 10 ^ 64 → Whole (decimal n)
decimal_whole n h = decimal-marks is_gap gap_mark n h

pub ratio_whole : (q : Number) → Fits q → Whole (ratio_word q)
ratio_whole q f = ratio-marks is_gap gap_mark q f

pub written_whole : (q : Number) → Fits q → Whole (written q)
written_whole q f = written-marks is_gap gap_mark q f

-- a weaker test passes nowhere either
pub none_weaker : (p q : ℕ → Bool) → ((b : ℕ) → q b ≡ false → p b ≡ false) → (xs : List ℕ) → None_pass q xs → All (λ b. p b ≡ false) xs
none_weaker p q weaker [] all = All-nil (λ (b : ℕ). p b ≡ false)
none_weaker p q weaker (x ∷ xs) all =
    let parts = and_parts (not (q x)) (list_all (λ b. not (q b)) xs) all in
    All-cons (λ (b : ℕ). p b ≡ false) x xs (weaker x (not-true (q x) parts.0)) (none_weaker p q weaker xs parts.1)

no_space : (b : ℕ) → is_gap b ≡ false → (b == 32) ≡ false
no_space b e = (or_parts (b == 32) (b == 10) e).0

no_feed : (b : ℕ) → is_gap b ≡ false → (b == 10) ≡ false
no_feed b e = (or_parts (b == 32) (b == 10) e).1

no_spaces : (w : List ℕ) → Whole w → All (λ b. (b == 32) ≡ false) w
no_spaces w h = none_weaker (λ b. b == 32) is_gap no_space w h

-- words behind each other are cut where the spaces are
pub words_again : (w : List ℕ) (ws : List (List ℕ)) → Whole w → AllByRecursion Whole ws → words_of (w ++ spaced ws) ≡ w ∷ ws
words_again w [] h hs = ap words_of (append-nil w) ∙ slice_split_none (λ b. b == 32) w (no_spaces w h)
words_again w (v ∷ vs) h hs = slice_split_at (λ b. b == 32) w 32 (v ++ spaced vs) (no_spaces w h) refl ∙ ap (λ us. w ∷ us) (words_again v vs hs.0 hs.1)

-- the bytes of a line, without its line feed
abbrev pub bytes_of : Line → List ℕ
bytes_of l = l.first ++ spaced l.others

-- a line of words without gaps
abbrev pub IsWhole : Line → Type 0
IsWhole l = Whole l.first × AllByRecursion Whole l.others

abbrev pub Unbroken : List ℕ → Type 0
Unbroken w = None_pass (λ b. b == 10) w

unbroken : (w : List ℕ) → Whole w → Unbroken w
unbroken [] h = refl
unbroken (b ∷ bs) h =
    let parts = and_parts (not (is_gap b)) (list_all (λ b. not (is_gap b)) bs) h in
    and_from _ _ (ap not (no_feed b (not-true (is_gap b) parts.0))) (unbroken bs parts.1)

spaced_unbroken : (ws : List (List ℕ)) → AllByRecursion Whole ws → Unbroken (spaced ws)
spaced_unbroken [] h = refl
spaced_unbroken (w ∷ ws) h = None_pass-append (λ b. b == 10) w (spaced ws) (unbroken w h.0) (spaced_unbroken ws h.1)

pub line_unbroken : (l : Line) → IsWhole l → Unbroken (bytes_of l)
line_unbroken l h = None_pass-append (λ b. b == 10) l.first (spaced l.others) (unbroken l.first h.0) (spaced_unbroken l.others h.1)

pub all_on : (xs ys : List Line) → AllByRecursion IsWhole xs → AllByRecursion IsWhole ys → AllByRecursion IsWhole (xs ++ ys)
all_on [] ys h k = k
all_on (x ∷ xs) ys h k = (h.0, all_on xs ys h.1 k)
