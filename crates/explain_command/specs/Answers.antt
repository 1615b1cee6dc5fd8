-- What the program answers to its words.
use Rattle.std.specs.Prelude.{◌≡◌, ◌⊎◌, ℕ, List, [], ◌∷◌, ◌++◌, codes}
use Rattle.file_ports.specs.Ports.{Gives, IsLonger, Moment}
use Rattle.endings.specs.declared.reads.TheConstants.{INPUT_LIMIT}
use Rattle.endings.specs.Ending.{no_memory_line, read_fault_line}
use Rattle.endings.specs.Moments.{FailsToRead}
use Rattle.explain_command.specs.declared.words.Words.{Words}
use Rattle.explain_command.specs.Running.{IsAnswer}

abbrev pub usage_line : List ℕ
usage_line = codes "usage: papilo-explain IN [--fractions] [--fixed] [--opb] [--limit N] [--all] [--column NAME] [--row NAME]" ++ 10 ∷ []

abbrev pub too_long_line : List ℕ
too_long_line = codes "error M17" ++ 10 ∷ []

-- memory ran out; where there is none to say so, nothing is said
abbrev pub RanOut : ℕ → List ℕ → Type 0
RanOut status text = (status ≡ 5) × ((text ≡ no_memory_line) ⊎ (text ≡ []))

-- this line, with this status; or memory ran out
abbrev pub IsLine : ℕ → List ℕ → ℕ → List ℕ → Type 0
IsLine wanted line status text = ((status ≡ wanted) × (text ≡ line)) ⊎ RanOut status text

-- it is told of the bytes that IN gives; or IN holds more than is read, or can't be read; or memory ran out
abbrev pub Answers : Words → Moment → Moment → ℕ → List ℕ → Type 0
Answers words before now status text =
    ((bytes : List ℕ) × Gives (before.told words.input.now) bytes × IsAnswer words bytes status text)
    ⊎ ((IsLonger (before.told words.input.now) INPUT_LIMIT × IsLine 2 too_long_line status text)
    ⊎ ((FailsToRead words.input.now before now × IsLine 3 read_fault_line status text)
    ⊎ RanOut status text))

-- the words are refused; or they ask for something, and that is answered
abbrev pub AnswersWords : Moment → Moment → ℕ → List ℕ → Type 0
AnswersWords before now status text = IsLine 1 usage_line status text ⊎ ((words : Words) × Answers words before now status text)
