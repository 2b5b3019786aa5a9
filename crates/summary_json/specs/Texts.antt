-- The JSON forms of symbolic heaps, posts and expressions: strings with their texts.
-- A string is read where all of it is the text of one thing.
use Rattle.std.specs.Prelude.{ℕ, nat_le, if◌then◌else◌, List, [], ◌∷◌, length, true}
use Rattle.std.specs.declared.option.Option.{Option}
use Rattle.std.specs.declared.option.Option.TheVariants.{None, Some}
use Rattle.serde_json.specs.Data.{Data, string}
use Rattle.serde_json.specs.Find.{as_str}
use Rattle.shape_data.specs.declared.program.StructDef.{StructDef}
use Rattle.shape_data.specs.declared.symbolic.Exp.{Exp}
use Rattle.shape_data.specs.declared.symbolic.Post.{Post}
use Rattle.shape_data.specs.declared.symbolic.SymHeap.{SymHeap}
use Rattle.sym_text.specs.Outcome.{Outcome, Got, Stopped}
use Rattle.sym_text.specs.Reading.{read_exp, read_whole_heap, read_whole_post}
use Rattle.sym_text.specs.Text.{exp_text, heap_text, post_text}
use Rattle.flow_json.specs.Forms.{go_on}

-- a text of at most so many bytes
abbrev pub within : ℕ → List ℕ → Option (List ℕ)
within most text = if nat_le (length text) most then Some text else None

-- what was read, if nothing of the text is left
abbrev pub all_of : {A : Type 0} → Outcome A → Option A
all_of (Got value []) = Some value
all_of (Got value (byte ∷ rest)) = None
all_of (Stopped rest) = None

-- a string of at most so many bytes
abbrev pub short_string : ℕ → Data → Option (List ℕ)
short_string most d = go_on (as_str d) (within most)

-- the most bytes of a heap's text and of an expression's
abbrev pub most_of_heap : ℕ
most_of_heap = 4294967295

abbrev pub most_of_exp : ℕ
most_of_exp = 64

-- a heap: its text
abbrev pub heap_data : List StructDef → List (List ℕ) → SymHeap → Data
heap_data structs params heap = string (heap_text structs params heap)

abbrev pub read_heap : List StructDef → List (List ℕ) → Data → Option SymHeap
read_heap structs params d = go_on (short_string most_of_heap d) (λ text. all_of (read_whole_heap structs params text))

-- a post: its text, with its result
abbrev pub post_data : List StructDef → List (List ℕ) → Post → Data
post_data structs params post = string (post_text structs params true post)

abbrev pub read_post : List StructDef → List (List ℕ) → Data → Option Post
read_post structs params d = go_on (short_string most_of_heap d) (λ text. all_of (read_whole_post structs params text))

-- an expression: its text
abbrev pub exp_data : List (List ℕ) → Exp → Data
exp_data params e = string (exp_text params e)

abbrev pub exp_of_text : List (List ℕ) → List ℕ → Option Exp
exp_of_text params text = all_of (read_exp params text)

abbrev pub read_exp_data : List (List ℕ) → Data → Option Exp
read_exp_data params d = go_on (short_string most_of_exp d) (exp_of_text params)
