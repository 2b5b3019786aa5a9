-- How texts of heaps are read, from the front. `proofs/` shows that the readers read the grammar exactly.
use Rattle.std.specs.Prelude.{ℕ, zero, suc, ◌+◌, ◌-◌, ◌*◌, nat_lt, nat_le, Bool, true, false, not, ◌&&◌, ◌||◌, List, [], ◌∷◌, ◌++◌}
use Rattle.std.specs.Prelude.{length, map, take, drop, codes, Option, Some, None, ◌==◌, if◌then◌else◌, pos, negsuc}
use Rattle.std.specs.List.{list_any, prefix_len}
use Rattle.std.specs.Str.{bytes_eq}
use Rattle.std.specs.Char.{is_ascii_digit}
use Rattle.shape_data.specs.declared.program.StructDef.{StructDef}
use Rattle.shape_data.specs.declared.symbolic.Atom.{Atom}
use Rattle.shape_data.specs.declared.symbolic.Atom.TheVariants.{Points, Seg, Junk}
use Rattle.shape_data.specs.declared.symbolic.Exp.{Exp}
use Rattle.shape_data.specs.declared.symbolic.Exp.TheVariants.{Var, Const}
use Rattle.shape_data.specs.declared.symbolic.Fact.{Fact}
use Rattle.shape_data.specs.declared.symbolic.Fact.TheVariants.{Eq, Ne}
use Rattle.shape_data.specs.declared.symbolic.SymHeap.{SymHeap}
use Rattle.shape_data.specs.Names.{is_name_start, is_name_byte}
use Rattle.shape_data.specs.declared.symbolic.Post.{Post}
use Rattle.sym_text.specs.declared.parts.Part.{Part}
use Rattle.sym_text.specs.declared.parts.Part.TheVariants as part
use Rattle.sym_text.specs.declared.starts.Start.{Start}
use Rattle.sym_text.specs.declared.starts.Start.TheVariants as start
use Rattle.sym_text.specs.declared.starts.Next.{Next}
use Rattle.sym_text.specs.declared.starts.Next.TheVariants as next
use Rattle.sym_text.specs.Outcome.{Got, Stopped, Reader, ◌>>=◌, give, never, only_if, by_first, literal}
use Rattle.sym_text.specs.Text.{field_names}

-- NUMBERS

-- a further digit of a number that is read, up to a limit
abbrev pub may_go_on : ℕ → ℕ → ℕ → Bool
may_go_on limit value byte = is_ascii_digit byte && nat_lt 0 value && nat_le (10 * value + (byte - 48)) limit

-- the further digits of a number whose digits up to here have this value. It ends where the text does, or before a byte that
-- stands in no name. A letter, an underscore, and a digit behind a single 0 or past the limit can't follow
abbrev pub read_digits : ℕ → ℕ → Reader ℕ
read_digits limit value [] = Got value []
read_digits limit value (byte ∷ text) =
    if is_name_byte byte
    then (if may_go_on limit value byte then read_digits limit (10 * value + (byte - 48)) text else Stopped (byte ∷ text))
    else Got value (byte ∷ text)

-- a decimal number without leading zeros from `least`, which is 0 or 1, to a limit of at least 9
abbrev pub read_number : ℕ → ℕ → Reader ℕ
read_number least limit [] = Stopped []
read_number least limit (byte ∷ text) =
    if is_ascii_digit byte && nat_le least (byte - 48) then read_digits limit (byte - 48) text else Stopped (byte ∷ text)

-- WORDS

-- how many bytes two texts have in common at the front
abbrev pub common : List ℕ → List ℕ → ℕ
common [] text = 0
common (byte ∷ word) [] = 0
common (byte ∷ word) (other ∷ text) = if byte == other then suc (common word text) else 0

-- how far some word goes, or what is reached already
abbrev pub reach_from : ℕ → List (List ℕ) → List ℕ → ℕ
reach_from most [] text = most
reach_from most (word ∷ words) text = reach_from (if nat_lt most (common word text) then common word text else most) words text

-- how far some word goes
abbrev pub reach : List (List ℕ) → List ℕ → ℕ
reach words text = reach_from 0 words text

-- the word is one of these
abbrev pub is_one_of : List (List ℕ) → List ℕ → Bool
is_one_of words word = list_any (λ one. bytes_eq one word) words

-- the bytes at the front of a text that may stand in a name, as many as there are. It may be none, or begin with a digit; then
-- it is no name
abbrev pub front_name : List ℕ → List ℕ
front_name text = take (prefix_len is_name_byte text) text

-- one of these words
unfoldable pub read_word : List (List ℕ) → Reader (List ℕ)
read_word words text =
    if is_one_of words (front_name text)
    then Got (front_name text) (drop (prefix_len is_name_byte text) text)
    else Stopped (drop (reach words text) text)

-- the place of a word among these
abbrev pub place_of : List (List ℕ) → List ℕ → ℕ
place_of [] word = 0
place_of (one ∷ words) word = if bytes_eq one word then 0 else suc (place_of words word)

-- EXPRESSIONS

-- what an expression may begin with
abbrev pub start_of : Option ℕ → Start
start_of None = start.Other
start_of (Some byte) =
    if is_name_start byte then start.Letter
    else (if is_ascii_digit byte then start.Digit
    else (if byte == 36 then start.Dollar
    else (if byte == 63 then start.Question
    else (if byte == 45 then start.Minus else start.Other))))

-- an expression that begins so
unfoldable pub exp_by : List (List ℕ) → Start → Reader Exp
exp_by params start.Letter = read_word params >>= λ name. give (Var (place_of params name))
exp_by params start.Digit = read_number 0 2147483647 >>= λ n. give (Const (pos n))
exp_by params start.Dollar = literal (codes "$") >>= λ mark. read_number 1 32768 >>= λ n. give (Var (length params + (n - 1)))
exp_by params start.Question = literal (codes "?") >>= λ mark. read_number 1 32768 >>= λ n. give (Var (65535 + n))
exp_by params start.Minus = literal (codes "-") >>= λ mark. read_number 1 2147483648 >>= λ n. give (Const (negsuc (n - 1)))
exp_by params start.Other = never

unfoldable pub read_exp : List (List ℕ) → Reader Exp
read_exp params = by_first start_of (exp_by params)

-- PARTS

-- what the byte behind a name or an expression says of what comes. With a byte of `Other` nothing can go on there
abbrev pub next_of : Option ℕ → Next
next_of None = next.End
next_of (Some byte) =
    if byte == 32 then next.End
    else (if byte == 124 then next.Bar
    else (if byte == 61 then next.Equal
    else (if byte == 33 then next.Bang
    else (if byte == 91 then next.Bracket else next.Other))))

-- whether the list has something
abbrev pub has_some : {A : Type 0} → List A → Bool
has_some [] = false
has_some (thing ∷ things) = true

-- the names of structures
abbrev pub kinds : List StructDef → List (List ℕ)
kinds structs = map (λ (def : StructDef). def.name) structs

-- the names of structures with a field
abbrev pub linked : List StructDef → List (List ℕ)
linked [] = []
linked (def ∷ structs) = if has_some def.fields then def.name ∷ linked structs else linked structs

-- a separator, the name of a field, `:` and its value
unfoldable pub read_field : List (List ℕ) → List ℕ → List ℕ → Reader Exp
read_field params separator name =
    literal separator >>= λ mark. (literal name >>= λ named. (literal (codes ":") >>= λ colon. read_exp params))

-- the values of these fields, behind those that are read, and `)`
unfoldable pub read_fields : List (List ℕ) → List ℕ → List (List ℕ) → List Exp → Reader (List Exp)
read_fields params separator [] values = literal (codes ")") >>= λ mark. give values
read_fields params separator (name ∷ names) values =
    read_field params separator name >>= λ value. read_fields params (codes ",") names (values ++ (value ∷ []))

-- a cell, behind its address
unfoldable pub read_cell : List StructDef → List (List ℕ) → Exp → Reader Part
read_cell structs params at =
    literal (codes "|->") >>= λ mark. (read_word (kinds structs) >>= λ kind. (literal (codes "(") >>= λ open_mark.
    (read_fields params [] (field_names structs kind) [] >>= λ values. give (part.Atom (Points at kind values)))))

-- the place of a field, by its name
unfoldable pub read_link : List (List ℕ) → Reader ℕ
read_link names = read_word names >>= λ name. give (place_of names name)

-- a list segment, behind `ls`
unfoldable pub read_segment : List StructDef → List (List ℕ) → Reader Part
read_segment structs params =
    literal (codes "[") >>= λ mark. (read_word (linked structs) >>= λ kind. (literal (codes ".") >>= λ dot.
    (read_link (field_names structs kind) >>= λ link. (literal (codes "](") >>= λ close.
    (read_exp params >>= λ source. (literal (codes ",") >>= λ comma. (read_exp params >>= λ target. (literal (codes ")") >>= λ end.
    give (part.Atom (Seg kind link source target))))))))))

-- a fact, behind its left side and with this sign
abbrev pub read_right : List (List ℕ) → List ℕ → (Exp → Fact) → Reader Part
read_right params sign fact = literal sign >>= λ mark. (read_exp params >>= λ right. give (part.Fact (fact right)))

-- what stands behind an expression, and begins so; facts may come no more behind an atom
unfoldable pub tail_by : List StructDef → List (List ℕ) → Bool → Exp → Next → Reader Part
tail_by structs params facts left next.Bar = only_if (has_some structs) (read_cell structs params left)
tail_by structs params facts left next.Equal = only_if facts (read_right params (codes "=") (λ right. Eq left right))
tail_by structs params facts left next.Bang = only_if facts (read_right params (codes "!=") (λ right. Ne left right))
tail_by structs params facts left next.Bracket = never
tail_by structs params facts left next.End = never
tail_by structs params facts left next.Other = never

-- whether an expression may begin a part
abbrev pub exps_may_come : List StructDef → Bool → Bool
exps_may_come structs facts = facts || has_some structs

-- the words that a part may begin with
abbrev pub lead_words : List StructDef → List (List ℕ) → Bool → Bool → List (List ℕ)
lead_words structs params facts is_first =
    (if exps_may_come structs facts then params else [])
    ++ ((if has_some (linked structs) then codes "ls" ∷ [] else []) ++ (codes "junk" ∷ (if is_first then codes "emp" ∷ [] else [])))

-- what stands behind a word, and begins so
unfoldable pub word_by : List StructDef → List (List ℕ) → Bool → Bool → List ℕ → Next → Reader Part
word_by structs params facts is_first word next.Bracket =
    only_if (bytes_eq (codes "ls") word && has_some (linked structs)) (read_segment structs params)
word_by structs params facts is_first word next.End =
    if bytes_eq (codes "junk") word then give (part.Atom Junk) else only_if (bytes_eq (codes "emp") word && is_first) (give part.Nothing)
word_by structs params facts is_first word next.Bar =
    only_if (is_one_of params word) (tail_by structs params facts (Var (place_of params word)) next.Bar)
word_by structs params facts is_first word next.Equal =
    only_if (is_one_of params word) (tail_by structs params facts (Var (place_of params word)) next.Equal)
word_by structs params facts is_first word next.Bang =
    only_if (is_one_of params word) (tail_by structs params facts (Var (place_of params word)) next.Bang)
word_by structs params facts is_first word next.Other = never

-- a part that begins with an expression other than a name
abbrev pub counted_part : List StructDef → List (List ℕ) → Bool → Start → Reader Part
counted_part structs params facts kind =
    only_if (exps_may_come structs facts) (exp_by params kind >>= λ left. by_first next_of (tail_by structs params facts left))

-- a part that begins so
unfoldable pub part_by : List StructDef → List (List ℕ) → Bool → Bool → Start → Reader Part
part_by structs params facts is_first start.Letter =
    read_word (lead_words structs params facts is_first) >>= λ word. by_first next_of (word_by structs params facts is_first word)
part_by structs params facts is_first start.Other = never
part_by structs params facts is_first start.Digit = counted_part structs params facts start.Digit
part_by structs params facts is_first start.Dollar = counted_part structs params facts start.Dollar
part_by structs params facts is_first start.Question = counted_part structs params facts start.Question
part_by structs params facts is_first start.Minus = counted_part structs params facts start.Minus

unfoldable pub read_part : List StructDef → List (List ℕ) → Bool → Bool → Reader Part
read_part structs params facts is_first = by_first start_of (part_by structs params facts is_first)

-- HEAPS

-- whether the text ends
abbrev pub is_end : Option ℕ → Bool
is_end None = true
is_end (Some byte) = false

-- the byte is `*`
abbrev pub is_star : Option ℕ → Bool
is_star None = false
is_star (Some byte) = byte == 42

-- in a post, behind the blank: `* ` and a further part, or `ret=`
abbrev pub ret_by : Bool → Bool → Reader Bool
ret_by more true = only_if more (literal (codes "* ") >>= λ mark. give true)
ret_by more false = literal (codes "ret=") >>= λ mark. give false

-- in a heap alone: the end, or ` * ` and a further part
abbrev pub end_by : Bool → Bool → Reader Bool
end_by more true = give false
end_by more false = only_if more (literal (codes " * ") >>= λ mark. give true)

-- what stands behind a part, and whether a further part does
unfoldable pub read_separator : Bool → Bool → Reader Bool
read_separator true more = literal (codes " ") >>= λ mark. by_first is_star (ret_by more)
read_separator false more = by_first is_end (end_by more)

-- the heap with one part more
abbrev pub with_part : SymHeap → Part → SymHeap
with_part heap (part.Fact fact) = record { pure = heap.pure ++ (fact ∷ []); spatial = heap.spatial }
with_part heap (part.Atom atom) = record { pure = heap.pure; spatial = heap.spatial ++ (atom ∷ []) }
with_part heap part.Nothing = heap

-- whether a further part may come
abbrev pub more_may_come : ℕ → Part → Bool
more_may_come left (part.Fact fact) = nat_lt 0 left
more_may_come left (part.Atom atom) = nat_lt 0 left
more_may_come left part.Nothing = false

-- a part, and whether a further one follows
abbrev pub Turn : Type 0
Turn = Part × Bool

-- a part and what stands behind it, where at most so many parts may follow
unfoldable pub read_turn : Bool → List StructDef → List (List ℕ) → Bool → Bool → ℕ → Reader Turn
read_turn with_ret structs params facts is_first left =
    read_part structs params facts is_first >>= λ one. (read_separator with_ret (more_may_come left one) >>= λ more. give (one, more))

-- at most so many parts more, behind those of a heap
unfoldable pub read_parts : Bool → List StructDef → List (List ℕ) → ℕ → Bool → SymHeap → Reader SymHeap
read_parts with_ret structs params zero is_first heap = never
read_parts with_ret structs params (suc left) is_first heap =
    read_part structs params (not (has_some heap.spatial)) is_first >>= λ one. (read_separator with_ret (more_may_come left one) >>= λ more.
    (if more then read_parts with_ret structs params left false (with_part heap one) else give (with_part heap one)))

-- the text of a heap
unfoldable pub read_whole_heap : List StructDef → List (List ℕ) → Reader SymHeap
read_whole_heap structs params = read_parts false structs params 4000 true (record { pure = []; spatial = [] })

-- the end of the text
abbrev pub end_only : Bool → Reader (Unit {0})
end_only true = give tt
end_only false = never

-- the text of a post with its result
unfoldable pub read_whole_post : List StructDef → List (List ℕ) → Reader Post
read_whole_post structs params =
    read_parts true structs params 4000 true (record { pure = []; spatial = [] }) >>= λ heap. (read_exp params >>= λ ret.
    (by_first is_end end_only >>= λ done. give (record { ret = ret; heap = heap })))
