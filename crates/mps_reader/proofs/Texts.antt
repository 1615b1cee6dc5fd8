-- Where the reading of a text stops, and how it goes on.
use Rattle.std.proofs.Common.{◌≡◌, ◌∙◌, ℕ, ◌+◌, ◌<◌, List, [], ◌∷◌, length, Bool, true, false, Some, None, sym, subst, ap, arith}
use Rattle.text_lines.specs.Lines.{lines_of}
use Rattle.mps_profile.specs.Texts.{Text}
use Rattle.mps_profile.specs.Reading.{is_end, is_ended, line_fault, first_fault, lines_read}
use Rattle.mps_profile.specs.declared.dialect.Dialect.{Dialect}
use Rattle.mps_profile.specs.declared.progress.Progress.{Progress}
use Rattle.mps_profile.specs.declared.faults.MpsFaultKind.{MpsFaultKind}
use Rattle.mps_profile.specs.declared.faults.MpsFaultKind.TheVariants.{NoEnd}
use Rattle.mps_laws.specs.Going.{Going}
use Rattle.mps_laws.proofs.Loop as loops
use Rattle.mps_reader.specs.declared.reader.Reader.{Reader}
use Rattle.mps_reader.specs.Reading.{Has, HasRead}

-- the reader knows whether ENDATA was read
ended_as : (dialect : Dialect) (before : List Text) (reader : Reader) (b : Bool) → Has dialect before reader → b ≡ is_end reader.progress.section → is_ended dialect before ≡ b
ended_as dialect before reader b has is = sym (is ∙ ap (λ (p : Progress). is_end p.section) has.progress)

pub at_end : (dialect : Dialect) (text rest : List ℕ) (number : ℕ) (reader : Reader) (before : List Text) → Going dialect text rest number before → Has dialect before reader
    → true ≡ is_end reader.progress.section → HasRead dialect text reader
at_end dialect text rest number reader before g has ends =
    let stop = loops.at_end dialect text rest number before g (ended_as dialect before reader true has ends) in
    let P : List Text → Type 0 = λ lines. Has dialect lines reader in
    let count : length (lines_read dialect text) ≡ number = ap length stop.1 ∙ sym g.count in
    record { sound = stop.0; has = subst P (sym stop.1) has; few = omega (arith, count, g.few) }

pub without_end : (dialect : Dialect) (text rest : List ℕ) (number : ℕ) (reader : Reader) (before : List Text) → Going dialect text rest number before → Has dialect before reader
    → length rest ≡ 0 → false ≡ is_end reader.progress.section → first_fault dialect text ≡ Some (NoEnd, number + 1)
without_end dialect text [] number reader before g has none ends = loops.without_end dialect text number before g (ended_as dialect before reader false has ends)
without_end dialect text (b ∷ rest) number reader before g has none ends = absurd (omega (arith, none))

-- what a method says at the reader's own dialect is so at the text's
pub taken_as : (dialect : Dialect) (before : List Text) (line : Text) (after : List Text) (reader new : Reader) → Has dialect before reader
    → (Has reader.tables.dialect before reader → (line_fault reader.tables.dialect before line after ≡ None) × Has reader.tables.dialect (line ∷ before) new)
    → (line_fault dialect before line after ≡ None) × Has dialect (line ∷ before) new
taken_as dialect before line after reader new has takes =
    let P : Dialect → Type 0 = λ d. Has d before reader in
    let Q : Dialect → Type 0 = λ d. (line_fault d before line after ≡ None) × Has d (line ∷ before) new in
    subst Q has.tables.manner (takes (subst P (sym has.tables.manner) has))

pub told_as : (dialect : Dialect) (before : List Text) (line : Text) (after : List Text) (reader : Reader) (fault : MpsFaultKind) → Has dialect before reader
    → (Has reader.tables.dialect before reader → line_fault reader.tables.dialect before line after ≡ Some fault) → line_fault dialect before line after ≡ Some fault
told_as dialect before line after reader fault has tells =
    let P : Dialect → Type 0 = λ d. Has d before reader in
    let Q : Dialect → Type 0 = λ d. line_fault d before line after ≡ Some fault in
    subst Q has.tables.manner (tells (subst P (sym has.tables.manner) has))

pub one_more : (dialect : Dialect) (text rest after : List ℕ) (line : Text) (number : ℕ) (reader : Reader) (before : List Text) → Going dialect text rest number before → Has dialect before reader
    → lines_of rest ≡ line ∷ lines_of after → length after < length rest → false ≡ is_end reader.progress.section → line_fault dialect before line (lines_of after) ≡ None
    → Going dialect text after (number + 1) (line ∷ before)
one_more dialect text rest after line number reader before g has first shorter ends sound =
    loops.one_more dialect text rest after line number before g first shorter (ended_as dialect before reader false has ends) sound

pub at_fault : (dialect : Dialect) (text rest after : List ℕ) (line : Text) (number : ℕ) (reader : Reader) (before : List Text) (fault : MpsFaultKind) → Going dialect text rest number before → Has dialect before reader
    → lines_of rest ≡ line ∷ lines_of after → false ≡ is_end reader.progress.section → line_fault dialect before line (lines_of after) ≡ Some fault
    → first_fault dialect text ≡ Some (fault, number + 1)
at_fault dialect text rest after line number reader before fault g has first ends told =
    loops.at_fault dialect text rest after line number before fault g first (ended_as dialect before reader false has ends) told
