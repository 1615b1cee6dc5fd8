-- How lines and texts are gone through.
use Rattle.std.proofs.Common.{◌≡◌, ℕ, suc, ◌+◌, ◌<◌, ◌≤◌, ◌^◌, List, [], ◌∷◌, length, map, Bool, true, false, cond, Option, Some, None, Ok, is_none, refl, sym, ap, ap₂, ◌∙◌, subst, arith}
use Rattle.text_lines.specs.Faults.{or_later}
use Rattle.text_lines.specs.Lines.{lines_of}
use Rattle.opb_text.specs.Words.{Text}
use Rattle.opb_text.specs.Tokens.{Token, token_of, tokens_on}
use Rattle.opb_text.specs.Faults.{least}
use Rattle.opb_text.specs.Places.{is_between}
use Rattle.opb_text.specs.Reading.{ends_in_literal, fault_at, fault_from, first_fault, going_on, is_literal, line_fault, may_end, or_else, place_behind, place_of, plain_fault, token_fault, tokens_from, tokens_of}
use Rattle.opb_text.specs.declared.faults.OpbFaultKind.{OpbFaultKind}
use Rattle.opb_text.specs.declared.faults.OpbFaultKind.TheVariants.{NoEnd}
use Rattle.opb_text.specs.declared.places.Place.{Place}
use Rattle.opb_laws.proofs.Counts.{text_few}
use Rattle.opb_reader.specs.Later.{later_fault}
use Rattle.opb_reader.specs.Holding.{Holds}
use Rattle.opb_reader.specs.Reading.{TookLine, TookToken}
use Rattle.opb_reader.specs.declared.reader.Reader.{Reader}

-- ---- behind a fault no place is known
or_none : (fault : Option OpbFaultKind) → or_else fault None ≡ fault
or_none None = refl
or_none (Some kind) = refl

both_none : (b : Bool) → cond {A = Option Place} b None None ≡ None
both_none true = refl
both_none false = refl

pub unplaced : (before : List Token) (words : List Text) → place_of before ≡ None → line_fault before (map token_of words) ≡ later_fault (ends_in_literal before) words
unplaced before [] none = refl
unplaced before (word ∷ words) none =
    let token : Token = token_of word in
    let fault : token_fault before token ≡ plain_fault (ends_in_literal before) token = ap (λ (p : Option Place). fault_at p before token) none ∙ or_none (plain_fault (ends_in_literal before) token) in
    let next : place_of (token ∷ before) ≡ None =
    ap (λ (p : Option Place). cond (is_none (fault_at p before token)) (place_behind p token) None) none ∙ both_none (is_none (fault_at None before token)) in
    ap₂ least fault (unplaced (token ∷ before) words next)

pub faulted : (before : List Token) (token : Token) (kind : OpbFaultKind) → token_fault before token ≡ Some kind → place_of (token ∷ before) ≡ None
faulted before token kind is = ap (λ (fault : Option OpbFaultKind). cond (is_none fault) (place_behind (place_of before) token) None) is

-- ---- a line
pub going_more : (before tokens : List Token) → length before ≤ length (going_on before tokens)
going_more before [] = omega arith
going_more before (token ∷ after) = let more = going_more (token ∷ before) after in let one : length (token ∷ before) ≡ suc (length before) = refl in omega (arith, more, one)

-- the words of a line that are left, and the tokens before them
pub record Walked (before line : List Token) (reader : Reader) (words : List Text) : Type 0 where
  pub now : List Token
  pub holds : Holds now reader
  pub going : going_on before line ≡ going_on now (map token_of words)
  pub fault : line_fault before line ≡ line_fault now (map token_of words)

pub walks_on : (before line : List Token) (old new : Reader) (words after : List Text) (word : Text) (walked : Walked before line old words) → words ≡ word ∷ after
    → token_fault walked.now (token_of word) ≡ None → Holds (token_of word ∷ walked.now) new → Walked before line new after
walks_on before line old new words after word walked is sound holds = record {
  now = token_of word ∷ walked.now;
  holds = holds;
  going = walked.going ∙ ap (λ (ws : List Text). going_on walked.now (map token_of ws)) is;
  fault = walked.fault ∙ ap (λ (ws : List Text). line_fault walked.now (map token_of ws)) is ∙ ap (λ (f : Option OpbFaultKind). least f (line_fault (token_of word ∷ walked.now) (map token_of after))) sound;
}

pub stops_at : (before line : List Token) (old : Reader) (words after : List Text) (word : Text) (kind told : OpbFaultKind) (walked : Walked before line old words) → words ≡ word ∷ after
    → token_fault walked.now (token_of word) ≡ Some kind → Some told ≡ least (Some kind) (later_fault (is_literal (token_of word)) after) → line_fault before line ≡ Some told
stops_at before line old words after word kind told walked is fault least_is =
    walked.fault ∙ ap (λ (ws : List Text). line_fault walked.now (map token_of ws)) is
    ∙ ap₂ least fault (unplaced (token_of word ∷ walked.now) after (faulted walked.now (token_of word) kind fault)) ∙ sym least_is

-- what taking a token told
pub line_on : (before line : List Token) (old new : Reader) (words after : List Text) (word : Text) (token : Token) (told : Option OpbFaultKind) (walked : Walked before line old words)
    → words ≡ word ∷ after → token ≡ token_of word → told ≡ None → TookToken {Error = Unit {0}} walked.now token (Ok told) new → Walked before line new after
line_on before line old new words after word token told walked is read none took =
    let taken : (token_fault walked.now token ≡ None) × Holds (token ∷ walked.now) new = subst (λ (o : Option OpbFaultKind). TookToken {Error = Unit {0}} walked.now token (Ok o) new) none took in
    walks_on before line old new words after word walked is (ap (token_fault walked.now) (sym read) ∙ taken.0) (subst (λ (t : Token). Holds (t ∷ walked.now) new) read taken.1)

pub line_stops : (before line : List Token) (old new : Reader) (words after : List Text) (word : Text) (token : Token) (told : Option OpbFaultKind) (kind least_kind : OpbFaultKind) (literal : Bool)
    (walked : Walked before line old words) → words ≡ word ∷ after → token ≡ token_of word → told ≡ Some kind → TookToken {Error = Unit {0}} walked.now token (Ok told) new → literal ≡ is_literal token
    → Some least_kind ≡ least (Some kind) (later_fault literal after) → line_fault before line ≡ Some least_kind
line_stops before line old new words after word token told kind least_kind literal walked is read some took after_literal found =
    let fault : token_fault walked.now token ≡ Some kind = subst (λ (o : Option OpbFaultKind). TookToken {Error = Unit {0}} walked.now token (Ok o) new) some took in
    stops_at before line old words after word kind least_kind walked is (ap (token_fault walked.now) (sym read) ∙ fault)
    (found ∙ ap (λ (b : Bool). least (Some kind) (later_fault b after)) (after_literal ∙ ap is_literal read))

pub walked_few : (before line : List Token) (reader : Reader) (words : List Text) (walked : Walked before line reader words) → length (going_on before line) < 2 ^ 32 → length walked.now < 2 ^ 32
walked_few before line reader words walked few =
    let more = going_more walked.now (map token_of words) in
    let same : length (going_on before line) ≡ length (going_on walked.now (map token_of words)) = ap length walked.going in
    omega (arith, more, same, few)

-- ---- a text
pub from_more : (before : List Token) (lines : List Text) → length before ≤ length (tokens_from before lines)
from_more before [] = omega arith
from_more before (line ∷ after) = let here = going_more before (tokens_on line) in let later = from_more (going_on before (tokens_on line)) after in omega (arith, here, later)

-- the lines that are left, and the tokens before them
pub record Going (text rest : List ℕ) (number : ℕ) (reader : Reader) : Type 0 where
  pub before : List Token
  pub holds : Holds before reader
  pub fault : first_fault text ≡ fault_from before (number + 1) (lines_of rest)
  pub tokens : tokens_of text ≡ tokens_from before (lines_of rest)
  pub few : number + length rest ≤ length text

pub going_few : (text rest : List ℕ) (number : ℕ) (reader : Reader) (line : Text) (after : List ℕ) (going : Going text rest number reader) → length text < 2 ^ 32 → lines_of rest ≡ line ∷ lines_of after
    → length (going_on going.before (tokens_on line)) < 2 ^ 32
going_few text rest number reader line after going short is =
    let tokens : tokens_of text ≡ tokens_from (going_on going.before (tokens_on line)) (lines_of after) = going.tokens ∙ ap (tokens_from going.before) is in
    let same : length (tokens_of text) ≡ length (tokens_from (going_on going.before (tokens_on line)) (lines_of after)) = ap length tokens in
    let more = from_more (going_on going.before (tokens_on line)) (lines_of after) in
    let few = text_few text in
    omega (arith, same, more, few, short)

pub line_taken : (text rest : List ℕ) (number : ℕ) (old new : Reader) (line : Text) (after : List ℕ) (going : Going text rest number old) → lines_of rest ≡ line ∷ lines_of after
    → length after < length rest → line_fault going.before (tokens_on line) ≡ None → Holds (going_on going.before (tokens_on line)) new → Going text after (number + 1) new
line_taken text rest number old new line after going is shorter sound holds = record {
  before = going_on going.before (tokens_on line);
  holds = holds;
  fault = going.fault ∙ ap (fault_from going.before (number + 1)) is
      ∙ ap (λ (f : Option OpbFaultKind). or_later f (number + 1) (fault_from (going_on going.before (tokens_on line)) (suc (number + 1)) (lines_of after))) sound
      ∙ ap (λ (n : ℕ). fault_from (going_on going.before (tokens_on line)) n (lines_of after)) (let one : suc (number + 1) ≡ number + 1 + 1 = omega arith in one);
  tokens = going.tokens ∙ ap (tokens_from going.before) is;
  few = omega (arith, going.few, shorter);
}

pub line_refused : (text rest : List ℕ) (number : ℕ) (old : Reader) (line : Text) (after : List ℕ) (kind : OpbFaultKind) (going : Going text rest number old) → lines_of rest ≡ line ∷ lines_of after
    → line_fault going.before (tokens_on line) ≡ Some kind → first_fault text ≡ Some (kind, number + 1)
line_refused text rest number old line after kind going is fault =
    going.fault ∙ ap (fault_from going.before (number + 1)) is
    ∙ ap (λ (f : Option OpbFaultKind). or_later f (number + 1) (fault_from (going_on going.before (tokens_on line)) (suc (number + 1)) (lines_of after))) fault

pub at_end : (text rest : List ℕ) (number : ℕ) (reader : Reader) (b : Bool) (going : Going text rest number reader) → length rest ≡ 0 → b ≡ is_between reader.place
    → first_fault text ≡ cond b None (Some (NoEnd, number + 1))
at_end text [] number reader b going none ends =
    going.fault ∙ ap (λ (p : Option Place). cond (may_end p) None (Some (NoEnd, number + 1))) going.holds.place ∙ ap (λ (t : Bool). cond t None (Some (NoEnd, number + 1))) (sym ends)
at_end text (byte ∷ rest) number reader b going none ends = absurd (omega (arith, none))

pub all_tokens : (text rest : List ℕ) (number : ℕ) (reader : Reader) (going : Going text rest number reader) → length rest ≡ 0 → Holds (tokens_of text) reader
all_tokens text [] number reader going none = subst (λ (tokens : List Token). Holds tokens reader) (sym going.tokens) going.holds
all_tokens text (byte ∷ rest) number reader going none = absurd (omega (arith, none))

-- what taking a line told
pub rest_on : (text rest : List ℕ) (number : ℕ) (old new : Reader) (line : Text) (after : List ℕ) (told : Option OpbFaultKind) (going : Going text rest number old)
    → lines_of rest ≡ line ∷ lines_of after → length after < length rest → told ≡ None → TookLine {Error = Unit {0}} going.before (tokens_on line) (Ok told) new → Going text after (number + 1) new
rest_on text rest number old new line after told going is shorter none took =
    let taken : (line_fault going.before (tokens_on line) ≡ None) × Holds (going_on going.before (tokens_on line)) new =
    subst (λ (o : Option OpbFaultKind). TookLine {Error = Unit {0}} going.before (tokens_on line) (Ok o) new) none took in
    line_taken text rest number old new line after going is shorter taken.0 taken.1

pub rest_stops : (text rest : List ℕ) (number : ℕ) (old new : Reader) (line : Text) (after : List ℕ) (told : Option OpbFaultKind) (kind : OpbFaultKind) (going : Going text rest number old)
    → lines_of rest ≡ line ∷ lines_of after → told ≡ Some kind → TookLine {Error = Unit {0}} going.before (tokens_on line) (Ok told) new → first_fault text ≡ Some (kind, number + 1)
rest_stops text rest number old new line after told kind going is some took =
    line_refused text rest number old line after kind going is (subst (λ (o : Option OpbFaultKind). TookLine {Error = Unit {0}} going.before (tokens_on line) (Ok o) new) some took)
