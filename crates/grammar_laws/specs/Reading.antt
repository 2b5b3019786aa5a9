-- How a form is read from the left, with one word of lookahead.
use Rattle.std.specs.Prelude.{◌≡◌, ℕ, zero, suc, Bool, true, false, ◌==◌, List, [], ◌∷◌, if◌then◌else◌, length, ◌<◌}
use Rattle.grammar_laws.specs.Form.{Facts, Form, Word, Closed, Nothing, Both, Either, Many, Nearest, Known, begins_in, starts}

-- What comes of a reading: the form was read, and this is left; or it stopped before what is left, at a word that
-- cannot stand there, or else (true) at one that opens a level of nesting that there isn't.
pub data Read : Type 0 where
  Done : List ℕ → Read
  Stop : Bool → List ℕ → Read

-- how a reading goes on
abbrev pub go_on : Read → (List ℕ → Read) → Read
go_on (Done rest) next = next rest
go_on (Stop deep rest) next = Stop deep rest

-- a form as often as it begins, and no more often than the number says
abbrev pub repeat : ℕ → (List ℕ → Read) → List ℕ → List ℕ → Read
repeat zero read begin words = Done words
repeat (suc times) read begin words =
    if begins_in begin words then go_on (read words) (λ rest. repeat times read begin rest) else Done words

-- a word of the class
abbrev pub read_word : ℕ → List ℕ → Read
read_word class [] = Stop false []
read_word class (word ∷ words) = if class == word then Done words else Stop false (word ∷ words)

-- a word of the class would be one level too deep
abbrev pub read_closed : ℕ → List ℕ → Read
read_closed class [] = Stop false []
read_closed class (word ∷ words) = Stop (class == word) (word ∷ words)

-- a word of the class and what is read behind it, or nothing
abbrev pub read_nearest : ℕ → (List ℕ → Read) → List ℕ → Read
read_nearest class read [] = Done []
read_nearest class read (word ∷ words) = if class == word then read words else Done (word ∷ words)

-- reads the form
abbrev pub reads : Form → List ℕ → Read
reads (Word class) words = read_word class words
reads (Closed class) words = read_closed class words
reads Nothing words = Done words
reads (Both one other) words = go_on (reads one words) (λ rest. reads other rest)
reads (Either one other) words = if begins_in (starts one) words then reads one words else reads other words
reads (Many one) words = repeat (length words) (reads one) (starts one) words
reads (Nearest class one) words = read_nearest class (reads one) words
reads (Known facts one) words = reads one words

-- the other form is the same with more levels open: where the form has a word that would be one level too deep, the
-- other has the word and what follows it there
pub data Opens : Form → Form → Type 0 where
  OpensWord : {class : ℕ} → Opens (Word class) (Word class)
  OpensLevel : {class : ℕ} {inner : Form} → Opens (Closed class) (Both (Word class) inner)
  OpensNothing : Opens Nothing Nothing
  OpensBoth : {one more second others : Form} → Opens one more → Opens second others → Opens (Both one second) (Both more others)
  OpensEither : {one more second others : Form} → Opens one more → Opens second others → Opens (Either one second) (Either more others)
  OpensMany : {one more : Form} → Opens one more → Opens (Many one) (Many more)
  OpensNearest : {class : ℕ} {one more : Form} → Opens one more → Opens (Nearest class one) (Nearest class more)
  OpensKnown : {facts : Facts} {one more : Form} → Opens one more → Opens (Known facts one) (Known facts more)

-- less is left than so many words
abbrev pub LeavesLess : Read → ℕ → Type 0
LeavesLess (Done rest) count = length rest < count
LeavesLess (Stop deep rest) count = length rest < count

-- what comes of the reading of the other form: the same, but behind the word that was one level too deep
abbrev pub Follows : Read → Read → Type 0
Follows (Done rest) other = other ≡ Done rest
Follows (Stop false rest) other = other ≡ Stop false rest
Follows (Stop true rest) other = LeavesLess other (length rest)
