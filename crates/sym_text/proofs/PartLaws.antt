-- Facts and atoms are read exactly.
use Rattle.std.proofs.Common.{◌≡◌, ◌==◌, ◌&&◌, if◌then◌else◌, ℕ, ◌+◌, Bool, true, false, List, [], ◌∷◌, ◌++◌, ◌⊎◌, inl, inr, Option, Some}
use Rattle.std.proofs.Common.{None, refl, sym, ap, ◌∙◌, subst, append_assoc, arith}
use Rattle.std.proofs.lemmas.Slice.Eq.{bytes_eq-Decides}
use Rattle.std.specs.Prelude.{codes}
use Rattle.std.specs.Str.{bytes_eq}
use Rattle.shape_data.specs.declared.program.StructDef.{StructDef}
use Rattle.shape_data.specs.declared.symbolic.Atom.{Atom}
use Rattle.shape_data.specs.declared.symbolic.Atom.TheVariants.{Junk}
use Rattle.shape_data.specs.declared.symbolic.Exp.{Exp}
use Rattle.shape_data.specs.declared.symbolic.Exp.TheVariants.{Var}
use Rattle.shape_data.specs.declared.symbolic.Fact.{Fact}
use Rattle.shape_data.specs.declared.symbolic.Fact.TheVariants.{Eq, Ne}
use Rattle.shape_data.specs.Names.{is_name_byte}
use Rattle.sym_text.specs.declared.parts.Part.{Part}
use Rattle.sym_text.specs.declared.parts.Part.TheVariants as part
use Rattle.sym_text.specs.declared.starts.Next.{Next}
use Rattle.sym_text.specs.declared.starts.Next.TheVariants as next
use Rattle.sym_text.specs.declared.starts.Start.{Start}
use Rattle.sym_text.specs.declared.starts.Start.TheVariants as start
use Rattle.sym_text.specs.Outcome.{◌>>=◌, give, never, only_if, first, by_first}
use Rattle.sym_text.specs.Reading.{place_of, is_one_of, start_of, next_of, has_some, linked, exp_by, read_exp, read_word, read_cell}
use Rattle.sym_text.specs.Reading.{read_segment, read_right, tail_by, exps_may_come, lead_words, word_by, counted_part, part_by}
use Rattle.sym_text.proofs.CellLaws.{PartEnds, Given, CellRaw, cell-Reads, cell_some_whole, SegmentRaw, segment-Reads, segment_some}
use Rattle.sym_text.proofs.Exactly.{Language, Reads, Anything, Behind, Under, InRow, bind-Reads, give-Reads, never-Reads, only_if-Reads}
use Rattle.sym_text.proofs.Exactly.{behind-Reads, under-Reads, from-Reads, same-Reads, by_first-Reads, same_byte}
use Rattle.sym_text.proofs.ExpLaws.{GoodParams, ExpText, ExpBy, exp_by-Reads, exp_start, exp-Reads, some_exp}
use Rattle.sym_text.proofs.NameLaws.{are_names}
use Rattle.sym_text.proofs.StructLaws.{GoodStructs}
use Rattle.sym_text.proofs.WordLaws.{both_true, Member, AreNames, IsWord, NotName, WordEnds, word-Reads, member_test}

-- BEHIND AN EXPRESSION

-- the right side of a fact
abbrev pub RightRaw : List (List ℕ) → List ℕ → (Exp → Fact) → Language Part
RightRaw params sign fact = Behind sign (Under (λ right. part.Fact (fact right)) (ExpText params))

-- what stands behind an expression and begins so
abbrev pub TailBy : List StructDef → List (List ℕ) → Bool → Exp → Next → Language Part
TailBy structs params facts left next.Bar = λ one text. (has_some structs ≡ true) × CellRaw structs params left one text
TailBy structs params facts left next.Equal = λ one text. (facts ≡ true) × RightRaw params (codes "=") (λ right. Eq left right) one text
TailBy structs params facts left next.Bang = λ one text. (facts ≡ true) × RightRaw params (codes "!=") (λ right. Ne left right) one text
TailBy structs params facts left next.Bracket = λ one text. ⊥
TailBy structs params facts left next.End = λ one text. ⊥
TailBy structs params facts left next.Other = λ one text. ⊥

right-Reads : (params : List (List ℕ)) → GoodParams params → (sign : List ℕ) (fact : Exp → Fact)
    → Reads Anything (RightRaw params sign fact) PartEnds (read_right params sign fact)
right-Reads params good sign fact =
    let (e, t, is) = some_exp params in
    behind-Reads Anything sign (Under (λ right. part.Fact (fact right)) (ExpText params)) PartEnds _
    (under-Reads Anything (λ right. part.Fact (fact right)) (ExpText params) WordEnds PartEnds (read_exp params) (λ a byte so. so)
    (λ a byte so. so) (exp-Reads params good))
    (part.Fact (fact e), t, (e, refl, is))

tail_by-Reads : (structs : List StructDef) (params : List (List ℕ)) → GoodStructs structs → GoodParams params
    → (facts : Bool) (left : Exp) (k : Next)
    → Reads Anything (TailBy structs params facts left k) PartEnds (tail_by structs params facts left k)
unfolding tail_by
tail_by-Reads structs params good_s good facts left next.Bar =
    only_if-Reads (has_some structs) Anything (CellRaw structs params left) PartEnds (read_cell structs params left)
    (λ some. cell-Reads structs params good_s good some left)
tail_by-Reads structs params good_s good facts left next.Equal =
    only_if-Reads facts Anything (RightRaw params (codes "=") (λ right. Eq left right)) PartEnds
    (read_right params (codes "=") (λ right. Eq left right)) (λ some. right-Reads params good (codes "=") (λ right. Eq left right))
tail_by-Reads structs params good_s good facts left next.Bang =
    only_if-Reads facts Anything (RightRaw params (codes "!=") (λ right. Ne left right)) PartEnds
    (read_right params (codes "!=") (λ right. Ne left right)) (λ some. right-Reads params good (codes "!=") (λ right. Ne left right))
tail_by-Reads structs params good_s good facts left next.Bracket = never-Reads Anything PartEnds
tail_by-Reads structs params good_s good facts left next.End = never-Reads Anything PartEnds
tail_by-Reads structs params good_s good facts left next.Other = never-Reads Anything PartEnds

tail_next : (structs : List StructDef) (params : List (List ℕ)) (facts : Bool) (left : Exp) (k : Next) (p : Part) (text beyond : List ℕ)
    → TailBy structs params facts left k p text → next_of (first (text ++ beyond)) ≡ k
tail_next structs params facts left next.Bar p text beyond (some, (rest, cut, is)) = ap (λ t. next_of (first (t ++ beyond))) cut
tail_next structs params facts left next.Equal p text beyond (some, (rest, cut, is)) = ap (λ t. next_of (first (t ++ beyond))) cut
tail_next structs params facts left next.Bang p text beyond (some, (rest, cut, is)) = ap (λ t. next_of (first (t ++ beyond))) cut
tail_next structs params facts left next.Bracket p text beyond is = absurd is
tail_next structs params facts left next.End p text beyond is = absurd is
tail_next structs params facts left next.Other p text beyond is = absurd is

tail_start : (structs : List StructDef) (params : List (List ℕ)) (facts : Bool) (left : Exp) (k : Next) (p : Part) (text beyond : List ℕ)
    → TailBy structs params facts left k p text → NotName (first (text ++ beyond))
tail_start structs params facts left next.Bar p text beyond (some, (rest, cut, is)) = rw cut refl
tail_start structs params facts left next.Equal p text beyond (some, (rest, cut, is)) = rw cut refl
tail_start structs params facts left next.Bang p text beyond (some, (rest, cut, is)) = rw cut refl
tail_start structs params facts left next.Bracket p text beyond is = absurd is
tail_start structs params facts left next.End p text beyond is = absurd is
tail_start structs params facts left next.Other p text beyond is = absurd is

-- something may stand behind an expression where one may come
tail_some : (structs : List StructDef) (params : List (List ℕ)) (facts : Bool) (left : Exp) → exps_may_come structs facts ≡ true
    → (k : Next) × (p : Part) × (text : List ℕ) × ((k ≡ next.Equal) ⊎ (k ≡ next.Bar)) × TailBy structs params facts left k p text
tail_some structs params true left may =
    let (e, t, is) = some_exp params in (next.Equal, part.Fact (Eq left e), codes "=" ++ t, inl refl, (refl, (t, refl, (e, refl, is))))
tail_some structs params false left may = let (p, t, is) = cell_some_whole structs params left may in (next.Bar, p, t, inr refl, (may, is))

-- what may stand behind an expression
abbrev pub Tails : List StructDef → List (List ℕ) → Bool → Exp → Language Part
Tails structs params facts left one text = (k : Next) × TailBy structs params facts left k one text

tails-Reads : (structs : List StructDef) (params : List (List ℕ)) → GoodStructs structs → GoodParams params → (facts : Bool) (left : Exp)
    → Reads Anything (Tails structs params facts left) PartEnds (by_first next_of (tail_by structs params facts left))
tails-Reads structs params good_s good facts left =
    by_first-Reads Anything next_of (TailBy structs params facts left) PartEnds (tail_by structs params facts left)
    (λ k. from-Reads Anything (λ byte. Anything byte × (next_of byte ≡ k)) (TailBy structs params facts left k) PartEnds
    (tail_by structs params facts left k) (λ byte so. tt) (tail_by-Reads structs params good_s good facts left k))
    (λ k p piece beyond is so. tail_next structs params facts left k p piece beyond is)

-- BEHIND A WORD

-- what stands behind a word and begins so
abbrev pub WordBy : List StructDef → List (List ℕ) → Bool → Bool → List ℕ → Next → Language Part
WordBy structs params facts is_first word next.Bracket =
    λ one text. ((bytes_eq (codes "ls") word && has_some (linked structs)) ≡ true) × SegmentRaw structs params one text
WordBy structs params facts is_first word next.End = λ one text. ((bytes_eq (codes "junk") word ≡ true) × Given (part.Atom Junk) one text)
    ⊎ ((bytes_eq (codes "junk") word ≡ false) × ((bytes_eq (codes "emp") word && is_first) ≡ true) × Given part.Nothing one text)
WordBy structs params facts is_first word next.Bar =
    λ one text. (is_one_of params word ≡ true) × TailBy structs params facts (Var (place_of params word)) next.Bar one text
WordBy structs params facts is_first word next.Equal =
    λ one text. (is_one_of params word ≡ true) × TailBy structs params facts (Var (place_of params word)) next.Equal one text
WordBy structs params facts is_first word next.Bang =
    λ one text. (is_one_of params word ≡ true) × TailBy structs params facts (Var (place_of params word)) next.Bang one text
WordBy structs params facts is_first word next.Other = λ one text. ⊥

-- at an end
abbrev AtEnd : Option ℕ → Type 0
AtEnd byte = Anything byte × (next_of byte ≡ next.End)

word_end-Reads : (is_first : Bool) (word : List ℕ) (junk emp : Bool)
    → Reads AtEnd
    (λ one text. ((junk ≡ true) × Given (part.Atom Junk) one text) ⊎ ((junk ≡ false) × (emp ≡ true) × Given part.Nothing one text)) PartEnds
    (if junk then give (part.Atom Junk) else only_if emp (give part.Nothing))
word_end-Reads is_first word true emp = same-Reads AtEnd (Given (part.Atom Junk)) _ PartEnds _
    (λ one text is. inl (refl, is))
    (λ one text is. elim is [ inl h ↦ h.1 | inr h ↦ absurd (let never_so : true ≡ false = h.0 in cc) ])
    (from-Reads (PartEnds (part.Atom Junk)) AtEnd (Given (part.Atom Junk)) PartEnds _ (λ byte so. so.1)
    (give-Reads (part.Atom Junk) PartEnds))
word_end-Reads is_first word false emp = same-Reads AtEnd (λ one text. (emp ≡ true) × Given part.Nothing one text) _ PartEnds _
    (λ one text is. inr (refl, is.0, is.1))
    (λ one text is. elim is [ inl h ↦ absurd (let never_so : false ≡ true = h.0 in cc) | inr h ↦ (h.1, h.2) ])
    (only_if-Reads emp AtEnd (Given part.Nothing) PartEnds (give part.Nothing)
    (λ so. from-Reads (PartEnds part.Nothing) AtEnd (Given part.Nothing) PartEnds _ (λ byte so. so.1) (give-Reads part.Nothing PartEnds)))

name_tail-Reads : (structs : List StructDef) (params : List (List ℕ)) → GoodStructs structs → GoodParams params
    → (facts : Bool) (word : List ℕ) (k : Next) (from : Option ℕ → Type 0)
    → Reads from (λ one text. (is_one_of params word ≡ true) × TailBy structs params facts (Var (place_of params word)) k one text) PartEnds
    (only_if (is_one_of params word) (tail_by structs params facts (Var (place_of params word)) k))
name_tail-Reads structs params good_s good facts word k from =
    only_if-Reads (is_one_of params word) from (TailBy structs params facts (Var (place_of params word)) k) PartEnds
    (tail_by structs params facts (Var (place_of params word)) k)
    (λ one. from-Reads Anything from (TailBy structs params facts (Var (place_of params word)) k) PartEnds
    (tail_by structs params facts (Var (place_of params word)) k) (λ byte so. tt)
    (tail_by-Reads structs params good_s good facts (Var (place_of params word)) k))

word_by-Reads : (structs : List StructDef) (params : List (List ℕ)) → GoodStructs structs → GoodParams params
    → (facts is_first : Bool) (word : List ℕ) → (k : Next)
    → Reads (λ byte. Anything byte × (next_of byte ≡ k)) (WordBy structs params facts is_first word k) PartEnds
    (word_by structs params facts is_first word k)
unfolding word_by
word_by-Reads structs params good_s good facts is_first word next.Bracket =
    only_if-Reads (bytes_eq (codes "ls") word && has_some (linked structs)) _ (SegmentRaw structs params) PartEnds
    (read_segment structs params)
    (λ same. from-Reads Anything (λ byte. Anything byte × (next_of byte ≡ next.Bracket)) (SegmentRaw structs params) PartEnds
    (read_segment structs params) (λ byte so. tt)
    (segment-Reads structs params good_s good (both_true (bytes_eq (codes "ls") word) (has_some (linked structs)) same).1))
word_by-Reads structs params good_s good facts is_first word next.End =
    word_end-Reads is_first word (bytes_eq (codes "junk") word) (bytes_eq (codes "emp") word && is_first)
word_by-Reads structs params good_s good facts is_first word next.Bar =
    name_tail-Reads structs params good_s good facts word next.Bar (λ byte. Anything byte × (next_of byte ≡ next.Bar))
word_by-Reads structs params good_s good facts is_first word next.Equal =
    name_tail-Reads structs params good_s good facts word next.Equal (λ byte. Anything byte × (next_of byte ≡ next.Equal))
word_by-Reads structs params good_s good facts is_first word next.Bang =
    name_tail-Reads structs params good_s good facts word next.Bang (λ byte. Anything byte × (next_of byte ≡ next.Bang))
word_by-Reads structs params good_s good facts is_first word next.Other =
    never-Reads (λ byte. Anything byte × (next_of byte ≡ next.Other)) PartEnds

word_next : (structs : List StructDef) (params : List (List ℕ)) (facts is_first : Bool) (word : List ℕ) (k : Next) (p : Part)
    (text beyond : List ℕ) → WordBy structs params facts is_first word k p text → PartEnds p (first beyond)
    → next_of (first (text ++ beyond)) ≡ k
word_next structs params facts is_first word next.Bracket p text beyond (same, (rest, cut, is)) ends =
    ap (λ t. next_of (first (t ++ beyond))) cut
word_next structs params facts is_first word next.End p text beyond (inl h) ends =
    rw h.1.1 (subst (λ (q : Part). PartEnds q (first beyond)) h.1.0 ends)
word_next structs params facts is_first word next.End p text beyond (inr h) ends =
    rw h.2.1 (subst (λ (q : Part). PartEnds q (first beyond)) h.2.0 ends)
word_next structs params facts is_first word next.Bar p text beyond is ends =
    tail_next structs params facts (Var (place_of params word)) next.Bar p text beyond is.1
word_next structs params facts is_first word next.Equal p text beyond is ends =
    tail_next structs params facts (Var (place_of params word)) next.Equal p text beyond is.1
word_next structs params facts is_first word next.Bang p text beyond is ends =
    tail_next structs params facts (Var (place_of params word)) next.Bang p text beyond is.1
word_next structs params facts is_first word next.Other p text beyond is ends = absurd is

-- the byte of an end stands in no name
pub end_not_name : (byte : Option ℕ) → next_of byte ≡ next.End → NotName byte
end_not_name None is = tt
end_not_name (Some byte) is = by_blank (byte == 32) refl is
  where
    other : (bar equal bang bracket : Bool)
        → (if bar then next.Bar
        else (if equal then next.Equal else (if bang then next.Bang else (if bracket then next.Bracket else next.Other)))) ≡ next.End → ⊥
    other true equal bang bracket is = cc
    other false true bang bracket is = cc
    other false false true bracket is = cc
    other false false false true is = cc
    other false false false false is = cc

    by_blank : (blank : Bool) → (byte == 32) ≡ blank
        → (if blank then next.End
        else (if byte == 124 then next.Bar
        else (if byte == 61 then next.Equal else (if byte == 33 then next.Bang else (if byte == 91 then next.Bracket else next.Other)))))
        ≡ next.End → is_name_byte byte ≡ false
    by_blank true blank is = let same = same_byte byte 32 blank in rw same refl
    by_blank false blank is = absurd (other (byte == 124) (byte == 61) (byte == 33) (byte == 91) is)

word_start : (structs : List StructDef) (params : List (List ℕ)) (facts is_first : Bool) (word : List ℕ) (k : Next) (p : Part)
    (text beyond : List ℕ) → WordBy structs params facts is_first word k p text → PartEnds p (first beyond)
    → NotName (first (text ++ beyond))
word_start structs params facts is_first word next.Bracket p text beyond (same, (rest, cut, is)) ends = rw cut refl
word_start structs params facts is_first word next.End p text beyond (inl h) ends =
    rw h.1.1 (end_not_name (first beyond) (subst (λ (q : Part). PartEnds q (first beyond)) h.1.0 ends))
word_start structs params facts is_first word next.End p text beyond (inr h) ends =
    rw h.2.1 (end_not_name (first beyond) (subst (λ (q : Part). PartEnds q (first beyond)) h.2.0 ends))
word_start structs params facts is_first word next.Bar p text beyond is ends =
    tail_start structs params facts (Var (place_of params word)) next.Bar p text beyond is.1
word_start structs params facts is_first word next.Equal p text beyond is ends =
    tail_start structs params facts (Var (place_of params word)) next.Equal p text beyond is.1
word_start structs params facts is_first word next.Bang p text beyond is ends =
    tail_start structs params facts (Var (place_of params word)) next.Bang p text beyond is.1
word_start structs params facts is_first word next.Other p text beyond is ends = absurd is

-- what may stand behind a word
abbrev pub Words : List StructDef → List (List ℕ) → Bool → Bool → List ℕ → Language Part
Words structs params facts is_first word one text = (k : Next) × WordBy structs params facts is_first word k one text

-- which words a part may begin with
pub data LeadWord (structs : List StructDef) (params : List (List ℕ)) (facts is_first : Bool) (word : List ℕ) : Type 0 where
  AName : exps_may_come structs facts ≡ true → Member word params → LeadWord structs params facts is_first word
  AnLs : has_some (linked structs) ≡ true → codes "ls" ≡ word → LeadWord structs params facts is_first word
  AJunk : codes "junk" ≡ word → LeadWord structs params facts is_first word
  AnEmp : is_first ≡ true → codes "emp" ≡ word → LeadWord structs params facts is_first word

member_append : (word : List ℕ) (words more : List (List ℕ)) → Member word (words ++ more) → Member word words ⊎ Member word more
member_append word [] more is = inr is
member_append word (one ∷ words) more (inl same) = inl (inl same)
member_append word (one ∷ words) more (inr is) = elim (member_append word words more is) [ inl h ↦ inl (inr h) | inr h ↦ inr h ]

append_member_left : (word : List ℕ) (words more : List (List ℕ)) → Member word words → Member word (words ++ more)
append_member_left word [] more is = absurd is
append_member_left word (one ∷ words) more (inl same) = inl same
append_member_left word (one ∷ words) more (inr is) = inr (append_member_left word words more is)

append_member_right : (word : List ℕ) (words more : List (List ℕ)) → Member word more → Member word (words ++ more)
append_member_right word [] more is = is
append_member_right word (one ∷ words) more is = inr (append_member_right word words more is)

pub lead_member : (structs : List StructDef) (params : List (List ℕ)) (facts is_first : Bool) (word : List ℕ)
    → Member word (lead_words structs params facts is_first) → LeadWord structs params facts is_first word
lead_member structs params facts is_first word is = elim (member_append word (if exps_may_come structs facts then params else []) _ is) [
  | inl name ↦ of_name (exps_may_come structs facts) refl name
  | inr other ↦ elim (member_append word (if has_some (linked structs) then codes "ls" ∷ [] else []) _ other) [
    | inl ls ↦ of_ls (has_some (linked structs)) refl ls
    | inr last ↦ elim last [ inl junk ↦ AJunk junk | inr emp ↦ of_emp is_first refl emp ]
  ]
]
  where
    of_name : (may : Bool) → exps_may_come structs facts ≡ may → Member word (if may then params else [])
        → LeadWord structs params facts is_first word
    of_name true may is = AName may is
    of_name false may is = absurd is

    of_ls : (has : Bool) → has_some (linked structs) ≡ has → Member word (if has then codes "ls" ∷ [] else [])
        → LeadWord structs params facts is_first word
    of_ls true has (inl same) = AnLs has same
    of_ls true has (inr is) = absurd is
    of_ls false has is = absurd is

    of_emp : (test : Bool) → is_first ≡ test → Member word (if test then codes "emp" ∷ [] else [])
        → LeadWord structs params facts is_first word
    of_emp true test (inl same) = AnEmp test same
    of_emp true test (inr is) = absurd is
    of_emp false test is = absurd is

pub member_lead : (structs : List StructDef) (params : List (List ℕ)) (facts is_first : Bool) (word : List ℕ)
    → LeadWord structs params facts is_first word → Member word (lead_words structs params facts is_first)
member_lead structs params facts is_first word (AName may is) =
    let here : Member word (if exps_may_come structs facts then params else []) =
    rw may is in append_member_left word (if exps_may_come structs facts then params else []) _ here
member_lead structs params facts is_first word (AnLs has same) =
    let here : Member word (if has_some (linked structs) then codes "ls" ∷ [] else []) =
    rw has (inl same) in append_member_right word (if exps_may_come structs facts then params else []) _
    (append_member_left word (if has_some (linked structs) then codes "ls" ∷ [] else []) _ here)
member_lead structs params facts is_first word (AJunk same) =
    append_member_right word (if exps_may_come structs facts then params else []) _
    (append_member_right word (if has_some (linked structs) then codes "ls" ∷ [] else []) _ (inl same))
member_lead structs params facts is_first word (AnEmp test same) =
    append_member_right word (if exps_may_come structs facts then params else []) _
    (append_member_right word (if has_some (linked structs) then codes "ls" ∷ [] else []) _
    (inr (let here : Member word (if is_first then codes "emp" ∷ [] else []) = rw test (inl same) in here)))

lead_names : (structs : List StructDef) (params : List (List ℕ)) → GoodParams params → (facts is_first : Bool)
    → AreNames (lead_words structs params facts is_first)
lead_names structs params good facts is_first =
    append_names (if exps_may_come structs facts then params else []) _ (of_name (exps_may_come structs facts))
    (append_names (if has_some (linked structs) then codes "ls" ∷ [] else []) _ (of_ls (has_some (linked structs))) (refl, of_emp is_first))
  where
    append_names : (words more : List (List ℕ)) → AreNames words → AreNames more → AreNames (words ++ more)
    append_names [] more names rest = rest
    append_names (word ∷ words) more names rest = (names.0, append_names words more names.1 rest)

    of_name : (may : Bool) → AreNames (if may then params else [])
    of_name true = are_names params good.names
    of_name false = tt

    of_ls : (has : Bool) → AreNames (if has then codes "ls" ∷ [] else [])
    of_ls true = (refl, tt)
    of_ls false = tt

    of_emp : (test : Bool) → AreNames (if test then codes "emp" ∷ [] else [])
    of_emp true = (refl, tt)
    of_emp false = tt

pub ls_test : (word : List ℕ) (has : Bool) → codes "ls" ≡ word → has ≡ true → (bytes_eq (codes "ls") word && has) ≡ true
ls_test word has same so = rw ((bytes_eq-Decides (codes "ls") word).1 same, so) refl

pub emp_test : (word : List ℕ) (is_first : Bool) → codes "emp" ≡ word → is_first ≡ true → (bytes_eq (codes "emp") word && is_first) ≡ true
emp_test word is_first same so = rw ((bytes_eq-Decides (codes "emp") word).1 same, so) refl

-- something may stand behind each word that a part may begin with
word_some : (structs : List StructDef) (params : List (List ℕ)) → GoodStructs structs → (facts is_first : Bool) (word : List ℕ)
    → LeadWord structs params facts is_first word → (p : Part) × (text : List ℕ) × Words structs params facts is_first word p text
word_some structs params good facts is_first word (AName may is) =
    let (k, p, text, which, tail) = tail_some structs params facts (Var (place_of params word)) may in
    elim which [
      | inl equal ↦ (
        p,
        text,
        (
          next.Equal,
          (member_test params word is, subst (λ (j : Next). TailBy structs params facts (Var (place_of params word)) j p text) equal tail),
        ),
      )
      | inr bar ↦ (
        p,
        text,
        (
          next.Bar,
          (
            member_test params word is,
            subst
                (λ (j : Next). TailBy structs params facts (Var (place_of params word)) j p text) bar tail,
          ),
        ),
      )
    ]
word_some structs params good facts is_first word (AnLs has same) =
    let (p, text, is) = segment_some structs params good has in
    let test : (bytes_eq (codes "ls") word && has_some (linked structs)) ≡ true = ls_test word (has_some (linked structs)) same has in
    (p, text, (next.Bracket, (test, is)))
word_some structs params good facts is_first word (AJunk same) =
    (part.Atom Junk, [], (next.End, inl ((bytes_eq-Decides (codes "junk") word).1 same, (refl, refl))))
word_some structs params good facts is_first word (AnEmp test same) =
    (part.Nothing, [], (next.End, inr (ap (bytes_eq (codes "junk")) (sym same), emp_test word is_first same test, (refl, refl))))

-- A PART

-- the texts of parts that begin so
abbrev pub PartBy : List StructDef → List (List ℕ) → Bool → Bool → Start → Language Part
PartBy structs params facts is_first start.Letter =
    InRow (IsWord (lead_words structs params facts is_first)) (Words structs params facts is_first)
PartBy structs params facts is_first start.Other = λ one text. ⊥
PartBy structs params facts is_first start.Digit =
    λ one text. (exps_may_come structs facts ≡ true) × InRow (ExpBy params start.Digit) (Tails structs params facts) one text
PartBy structs params facts is_first start.Dollar =
    λ one text. (exps_may_come structs facts ≡ true) × InRow (ExpBy params start.Dollar) (Tails structs params facts) one text
PartBy structs params facts is_first start.Question =
    λ one text. (exps_may_come structs facts ≡ true) × InRow (ExpBy params start.Question) (Tails structs params facts) one text
PartBy structs params facts is_first start.Minus =
    λ one text. (exps_may_come structs facts ≡ true) × InRow (ExpBy params start.Minus) (Tails structs params facts) one text

counted-Reads : (structs : List StructDef) (params : List (List ℕ)) → GoodStructs structs → GoodParams params → (facts : Bool) (k : Start)
    → Reads Anything
    (λ one text. (exps_may_come structs facts ≡ true) × InRow (ExpBy params k) (Tails structs params facts) one text) PartEnds
    (counted_part structs params facts k)
counted-Reads structs params good_s good facts k =
    only_if-Reads (exps_may_come structs facts) Anything (InRow (ExpBy params k) (Tails structs params facts)) PartEnds
    (exp_by params k >>= λ left. by_first next_of (tail_by structs params facts left))
    (λ may. bind-Reads Anything (ExpBy params k) WordEnds (Tails structs params facts) PartEnds (exp_by params k) _
    (exp_by-Reads params good k)
    (λ left x is. from-Reads Anything (WordEnds left) (Tails structs params facts left) PartEnds _ (λ byte so. tt)
    (tails-Reads structs params good_s good facts left))
    (λ left x y p beyond is tail so. tail_start structs params facts left tail.0 p y beyond tail.1)
    (λ left x is. let (j, p, text, which, tail) = tail_some structs params facts left may in (p, text, (j, tail))))

letter-Reads : (structs : List StructDef) (params : List (List ℕ)) → GoodStructs structs → GoodParams params → (facts is_first : Bool)
    → Reads Anything (InRow (IsWord (lead_words structs params facts is_first)) (Words structs params facts is_first)) PartEnds
    (read_word (lead_words structs params facts is_first) >>= λ word. by_first next_of (word_by structs params facts is_first word))
letter-Reads structs params good_s good facts is_first =
    bind-Reads Anything (IsWord (lead_words structs params facts is_first)) WordEnds (Words structs params facts is_first) PartEnds
    (read_word (lead_words structs params facts is_first)) _
    (word-Reads (lead_words structs params facts is_first) (lead_names structs params good facts is_first))
    (λ word x is. from-Reads Anything (WordEnds word) (Words structs params facts is_first word) PartEnds _ (λ byte so. tt)
    (by_first-Reads Anything next_of (WordBy structs params facts is_first word) PartEnds (word_by structs params facts is_first word)
    (word_by-Reads structs params good_s good facts is_first word)
    (λ k p piece beyond is so. word_next structs params facts is_first word k p piece beyond is so)))
    (λ word x y p beyond is more so. word_start structs params facts is_first word more.0 p y beyond more.1 so)
    (λ word x is. word_some structs params good_s facts is_first word (lead_member structs params facts is_first word is.0))

pub part_by-Reads : (structs : List StructDef) (params : List (List ℕ)) → GoodStructs structs → GoodParams params
    → (facts is_first : Bool) (k : Start)
    → Reads Anything (PartBy structs params facts is_first k) PartEnds (part_by structs params facts is_first k)
unfolding part_by
part_by-Reads structs params good_s good facts is_first start.Letter = letter-Reads structs params good_s good facts is_first
part_by-Reads structs params good_s good facts is_first start.Other = never-Reads Anything PartEnds
part_by-Reads structs params good_s good facts is_first start.Digit = counted-Reads structs params good_s good facts start.Digit
part_by-Reads structs params good_s good facts is_first start.Dollar = counted-Reads structs params good_s good facts start.Dollar
part_by-Reads structs params good_s good facts is_first start.Question = counted-Reads structs params good_s good facts start.Question
part_by-Reads structs params good_s good facts is_first start.Minus = counted-Reads structs params good_s good facts start.Minus

counted_start : (structs : List StructDef) (params : List (List ℕ)) → GoodParams params
    → (facts : Bool) (k : Start) (p : Part) (piece beyond : List ℕ) → InRow (ExpBy params k) (Tails structs params facts) p piece
    → start_of (first (piece ++ beyond)) ≡ k
counted_start structs params good facts k p piece beyond row =
    ap (λ t. start_of (first t)) (ap (λ t. t ++ beyond) row.cut ∙ append_assoc row.left row.right beyond)
    ∙ exp_start params good k row.at row.left (row.right ++ beyond) row.is_left

word_letter : (structs : List StructDef) (params : List (List ℕ)) → GoodParams params → (facts is_first : Bool) (word beyond : List ℕ)
    → LeadWord structs params facts is_first word → start_of (first (word ++ beyond)) ≡ start.Letter
word_letter structs params good facts is_first word beyond (AName may is) =
    exp_start params good start.Letter (Var (place_of params word)) word beyond (word, refl, (is, refl))
word_letter structs params good facts is_first word beyond (AnLs has same) = ap (λ t. start_of (first (t ++ beyond))) (sym same)
word_letter structs params good facts is_first word beyond (AJunk same) = ap (λ t. start_of (first (t ++ beyond))) (sym same)
word_letter structs params good facts is_first word beyond (AnEmp test same) = ap (λ t. start_of (first (t ++ beyond))) (sym same)

pub part_start : (structs : List StructDef) (params : List (List ℕ)) → GoodParams params
    → (facts is_first : Bool) (k : Start) (p : Part) (piece beyond : List ℕ) → PartBy structs params facts is_first k p piece
    → start_of (first (piece ++ beyond)) ≡ k
part_start structs params good facts is_first start.Letter p piece beyond row =
    ap (λ t. start_of (first t))
    (ap (λ t. t ++ beyond) (row.cut ∙ ap (λ t. t ++ row.right) row.is_left.1) ∙ append_assoc row.at row.right beyond)
    ∙ word_letter structs params good facts is_first row.at (row.right ++ beyond)
    (lead_member structs params facts is_first row.at row.is_left.0)
part_start structs params good facts is_first start.Other p piece beyond is = absurd is
part_start structs params good facts is_first start.Digit p piece beyond is =
    counted_start structs params good facts start.Digit p piece beyond is.1
part_start structs params good facts is_first start.Dollar p piece beyond is =
    counted_start structs params good facts start.Dollar p piece beyond is.1
part_start structs params good facts is_first start.Question p piece beyond is =
    counted_start structs params good facts start.Question p piece beyond is.1
part_start structs params good facts is_first start.Minus p piece beyond is =
    counted_start structs params good facts start.Minus p piece beyond is.1
