-- What is read as a part is its text, and the other way round.
use Rattle.std.proofs.Common.{◌≡◌, ℕ, ◌+◌, Bool, true, false, List, [], ◌∷◌, ◌++◌, length, inl, inr, refl, sym, ap, ◌∙◌, subst}
use Rattle.std.proofs.Common.{append_assoc, arith}
use Rattle.std.proofs.lemmas.List.{append-nil}
use Rattle.std.specs.Prelude.{codes}
use Rattle.std.specs.Option.{IsSomeAnd}
use Rattle.std.specs.Str.{bytes_eq}
use Rattle.shape_data.specs.declared.program.StructDef.{StructDef}
use Rattle.shape_data.specs.declared.symbolic.Atom.{Atom}
use Rattle.shape_data.specs.declared.symbolic.Atom.TheVariants.{Points, Seg, Junk}
use Rattle.shape_data.specs.declared.symbolic.Exp.{Exp}
use Rattle.shape_data.specs.declared.symbolic.Exp.TheVariants.{Var}
use Rattle.shape_data.specs.declared.symbolic.Fact.{Fact}
use Rattle.shape_data.specs.declared.symbolic.Fact.TheVariants.{Eq, Ne}
use Rattle.shape_data.specs.Heap.{struct_named}
use Rattle.shape_data.specs.WellFormed.{IsExp, IsFact, IsAtom}
use Rattle.sym_text.specs.declared.parts.Part.{Part}
use Rattle.sym_text.specs.declared.parts.Part.TheVariants as part
use Rattle.sym_text.specs.declared.starts.Next.{Next}
use Rattle.sym_text.specs.declared.starts.Next.TheVariants as next
use Rattle.sym_text.specs.declared.starts.Start.{Start}
use Rattle.sym_text.specs.declared.starts.Start.TheVariants as start
use Rattle.sym_text.specs.Grammar.{written, IsInt, HasInts, HoldsInts}
use Rattle.sym_text.specs.Outcome.{first, by_first}
use Rattle.sym_text.specs.Reading.{place_of, start_of, has_some, linked, exps_may_come, part_by, read_part}
use Rattle.sym_text.specs.Text.{exp_text, fact_text, atom_text}
use Rattle.sym_text.proofs.CellLaws.{PartEnds}
use Rattle.sym_text.proofs.CellTexts.{cell_tail, cell_to, cell_back, cell_whole, segment_tail, segment_to_text, segment_back}
use Rattle.sym_text.proofs.Exactly.{Language, Reads, Anything, InRow, from-Reads, same-Reads, by_first-Reads}
use Rattle.sym_text.proofs.ExpLaws.{GoodParams, ExpText, ExpBy, exp_to, exp_back}
use Rattle.sym_text.proofs.PartLaws.{TailBy, Tails, WordBy, AName, AnLs, AJunk, AnEmp, member_lead, ls_test, emp_test, PartBy}
use Rattle.sym_text.proofs.PartLaws.{part_by-Reads, part_start}
use Rattle.sym_text.proofs.StructLaws.{GoodStructs}
use Rattle.sym_text.proofs.WordLaws.{both_true, Member, same_bytes, member_test, test_member}

-- the texts of a part, where facts may come or not, and where it is the first or not
abbrev pub PartText : List StructDef → List (List ℕ) → Bool → Bool → Language Part
PartText structs params facts is_first (part.Fact fact) text =
    (facts ≡ true) × IsFact written (length params) fact × HasInts fact × (text ≡ fact_text params fact)
PartText structs params facts is_first (part.Atom atom) text =
    IsAtom written structs (length params) atom × HoldsInts atom × (text ≡ atom_text structs params atom)
PartText structs params facts is_first part.Nothing text = (is_first ≡ true) × (text ≡ codes "emp")

-- an expression and what stands behind it are a part
tail_to : (structs : List StructDef) (params : List (List ℕ)) → GoodStructs structs
    → (facts is_first : Bool) (left : Exp) (k : Next) (p : Part) (x y : List ℕ) → ExpText params left x
    → TailBy structs params facts left k p y → PartText structs params facts is_first p (x ++ y)
tail_to structs params good facts is_first left next.Bar p x y is (some, cell) =
    let c = cell_to structs params good left p y cell in
    subst (λ (q : Part). PartText structs params facts is_first q (x ++ y)) (sym c.is) (
      (is.0, c.listed, c.exps),
      (is.1, c.ints),
      ap (λ t. t ++ y) is.2 ∙ ap (λ t. exp_text params left ++ t) c.text_so ∙ sym (cell_whole structs params left c.kind c.values),
    )
tail_to structs params good facts is_first left next.Equal p x y is (some, (rest, cut, (right, same, is_right))) =
    subst (λ (q : Part). PartText structs params facts is_first q (x ++ y)) (sym same) (
      some,
      (is.0, is_right.0),
      (is.1, is_right.1),
      ap (λ t. t ++ y) is.2 ∙ ap (λ t. exp_text params left ++ t) (cut ∙ ap (λ t. codes "=" ++ t) is_right.2)
          ∙ sym (append_assoc (exp_text params left) (codes "=") (exp_text params right)),
    )
tail_to structs params good facts is_first left next.Bang p x y is (some, (rest, cut, (right, same, is_right))) =
    subst (λ (q : Part). PartText structs params facts is_first q (x ++ y)) (sym same) (
      some,
      (is.0, is_right.0),
      (is.1, is_right.1),
      ap (λ t. t ++ y) is.2 ∙ ap (λ t. exp_text params left ++ t) (cut ∙ ap (λ t. codes "!=" ++ t) is_right.2)
          ∙ sym (append_assoc (exp_text params left) (codes "!=") (exp_text params right)),
    )
tail_to structs params good facts is_first left next.Bracket p x y is tail = absurd tail
tail_to structs params good facts is_first left next.End p x y is tail = absurd tail
tail_to structs params good facts is_first left next.Other p x y is tail = absurd tail

row_to : (structs : List StructDef) (params : List (List ℕ)) → GoodStructs structs → GoodParams params
    → (facts is_first : Bool) (k : Start) (p : Part) (text : List ℕ) → InRow (ExpBy params k) (Tails structs params facts) p text
    → PartText structs params facts is_first p text
row_to structs params good_s good facts is_first k p text row =
    subst (λ (t : List ℕ). PartText structs params facts is_first p t) (sym row.cut)
    (tail_to structs params good_s facts is_first row.at row.is_right.0 p row.left row.right
    (exp_to params good k row.at row.left row.is_left) row.is_right.1)

name_to : (structs : List StructDef) (params : List (List ℕ)) → GoodStructs structs → GoodParams params
    → (facts is_first : Bool) (word : List ℕ) (k : Next) (p : Part) (text : List ℕ) → Member word params
    → TailBy structs params facts (Var (place_of params word)) k p text → PartText structs params facts is_first p (word ++ text)
name_to structs params good_s good facts is_first word k p text is tail =
    tail_to structs params good_s facts is_first (Var (place_of params word)) k p word text
    (exp_to params good start.Letter (Var (place_of params word)) word (word, refl, (is, refl))) tail

word_to : (structs : List StructDef) (params : List (List ℕ)) → GoodStructs structs → GoodParams params
    → (facts is_first : Bool) (word : List ℕ) (k : Next) (p : Part) (text : List ℕ) → WordBy structs params facts is_first word k p text
    → PartText structs params facts is_first p (word ++ text)
word_to structs params good_s good facts is_first word next.Bracket p text (test, is) =
    let s = segment_to_text structs params good_s p text is in
    let named = same_bytes (codes "ls") word (both_true (bytes_eq (codes "ls") word) (has_some (linked structs)) test).0 in
    subst (λ (q : Part). PartText structs params facts is_first q (word ++ text)) (sym s.is)
    (s.atom, s.ints, ap (λ w. w ++ text) (sym named) ∙ s.text_so)
word_to structs params good_s good facts is_first word next.End p text (inl h) =
    subst (λ (q : Part). PartText structs params facts is_first q (word ++ text)) (sym h.1.0)
    (tt, tt, ap (λ t. word ++ t) h.1.1 ∙ append-nil word ∙ sym (same_bytes (codes "junk") word h.0))
word_to structs params good_s good facts is_first word next.End p text (inr h) =
    let both = both_true (bytes_eq (codes "emp") word) is_first h.1 in
    subst (λ (q : Part). PartText structs params facts is_first q (word ++ text)) (sym h.2.0)
    (both.1, ap (λ t. word ++ t) h.2.1 ∙ append-nil word ∙ sym (same_bytes (codes "emp") word both.0))
word_to structs params good_s good facts is_first word next.Bar p text is =
    name_to structs params good_s good facts is_first word next.Bar p text (test_member params word is.0) is.1
word_to structs params good_s good facts is_first word next.Equal p text is =
    name_to structs params good_s good facts is_first word next.Equal p text (test_member params word is.0) is.1
word_to structs params good_s good facts is_first word next.Bang p text is =
    name_to structs params good_s good facts is_first word next.Bang p text (test_member params word is.0) is.1
word_to structs params good_s good facts is_first word next.Other p text is = absurd is

part_to : (structs : List StructDef) (params : List (List ℕ)) → GoodStructs structs → GoodParams params
    → (facts is_first : Bool) (k : Start) (p : Part) (text : List ℕ) → PartBy structs params facts is_first k p text
    → PartText structs params facts is_first p text
part_to structs params good_s good facts is_first start.Letter p text row =
    subst (λ (t : List ℕ). PartText structs params facts is_first p t) (sym (row.cut ∙ ap (λ t. t ++ row.right) row.is_left.1))
    (word_to structs params good_s good facts is_first row.at row.is_right.0 p row.right row.is_right.1)
part_to structs params good_s good facts is_first start.Other p text is = absurd is
part_to structs params good_s good facts is_first start.Digit p text is =
    row_to structs params good_s good facts is_first start.Digit p text is.1
part_to structs params good_s good facts is_first start.Dollar p text is =
    row_to structs params good_s good facts is_first start.Dollar p text is.1
part_to structs params good_s good facts is_first start.Question p text is =
    row_to structs params good_s good facts is_first start.Question p text is.1
part_to structs params good_s good facts is_first start.Minus p text is =
    row_to structs params good_s good facts is_first start.Minus p text is.1

-- BACK

word_tail : (structs : List StructDef) (params : List (List ℕ)) (facts is_first : Bool) (word : List ℕ) (k : Next) (p : Part)
    (text : List ℕ) → Member word params → TailBy structs params facts (Var (place_of params word)) k p text
    → WordBy structs params facts is_first word k p text
word_tail structs params facts is_first word next.Bar p text is tail = (member_test params word is, tail)
word_tail structs params facts is_first word next.Equal p text is tail = (member_test params word is, tail)
word_tail structs params facts is_first word next.Bang p text is tail = (member_test params word is, tail)
word_tail structs params facts is_first word next.Bracket p text is tail = absurd tail
word_tail structs params facts is_first word next.End p text is tail = absurd tail
word_tail structs params facts is_first word next.Other p text is tail = absurd tail

-- an expression and what stands behind it, as a part that is read
row_back : (structs : List StructDef) (params : List (List ℕ)) (facts is_first : Bool) (left : Exp) (k : Start) (j : Next) (p : Part)
    (x y : List ℕ) → exps_may_come structs facts ≡ true → ExpBy params k left x → TailBy structs params facts left j p y
    → PartBy structs params facts is_first k p (x ++ y)
row_back structs params facts is_first left start.Letter j p x y may (name, same, is) tail =
    let name_tail = subst (λ (e : Exp). TailBy structs params facts e j p y) same tail in
    record {
      at = name;
      left = x;
      right = y;
      is_left = (member_lead structs params facts is_first name (AName may is.0), is.1);
      is_right = (j, word_tail structs params facts is_first name j p y is.0 name_tail);
      cut = refl;
    }
row_back structs params facts is_first left start.Other j p x y may is tail = absurd is
row_back structs params facts is_first left start.Digit j p x y may is tail =
    (may, record { at = left; left = x; right = y; is_left = is; is_right = (j, tail); cut = refl })
row_back structs params facts is_first left start.Dollar j p x y may is tail =
    (may, record { at = left; left = x; right = y; is_left = is; is_right = (j, tail); cut = refl })
row_back structs params facts is_first left start.Question j p x y may is tail =
    (may, record { at = left; left = x; right = y; is_left = is; is_right = (j, tail); cut = refl })
row_back structs params facts is_first left start.Minus j p x y may is tail =
    (may, record { at = left; left = x; right = y; is_left = is; is_right = (j, tail); cut = refl })

may_facts : (structs : List StructDef) (facts : Bool) → facts ≡ true → exps_may_come structs facts ≡ true
may_facts structs facts is = rw is refl

may_cells : (structs : List StructDef) (facts : Bool) → has_some structs ≡ true → exps_may_come structs facts ≡ true
may_cells structs true is = refl
may_cells structs false is = is

some_struct : (structs : List StructDef) (kind : List ℕ) (P : StructDef → Type 0) → IsSomeAnd (struct_named structs kind) P
    → has_some structs ≡ true
some_struct [] kind P is = absurd is
some_struct (def ∷ structs) kind P is = refl

exp_back_by : (structs : List StructDef) (params : List (List ℕ)) → GoodParams params
    → (facts is_first : Bool) (left : Exp) (j : Next) (p : Part) (y : List ℕ) → exps_may_come structs facts ≡ true
    → IsExp written (length params) left → IsInt left → TailBy structs params facts left j p y
    → (k : Start) × PartBy structs params facts is_first k p (exp_text params left ++ y)
exp_back_by structs params good facts is_first left j p y may fits int tail =
    let (k, is) = exp_back params good left (exp_text params left) (fits, int, refl) in
    (k, row_back structs params facts is_first left k j p (exp_text params left) y may is tail)

part_back : (structs : List StructDef) (params : List (List ℕ)) → GoodStructs structs → GoodParams params
    → (facts is_first : Bool) (p : Part) (text : List ℕ) → PartText structs params facts is_first p text
    → (k : Start) × PartBy structs params facts is_first k p text
part_back structs params good_s good facts is_first (part.Fact (Eq left right)) text (some, fits, ints, cut) =
    let (k, is) =
    exp_back_by structs params good facts is_first left next.Equal (part.Fact (Eq left right)) (codes "=" ++ exp_text params right)
    (may_facts structs facts some) fits.0 ints.0 (some, (exp_text params right, refl, (right, refl, (fits.1, ints.1, refl)))) in (
      k,
      subst (λ (t : List ℕ). PartBy structs params facts is_first k (part.Fact (Eq left right)) t)
          (sym (cut ∙ append_assoc (exp_text params left) (codes "=") (exp_text params right))) is,
    )
part_back structs params good_s good facts is_first (part.Fact (Ne left right)) text (some, fits, ints, cut) =
    let (k, is) =
    exp_back_by structs params good facts is_first left next.Bang (part.Fact (Ne left right)) (codes "!=" ++ exp_text params right)
    (may_facts structs facts some) fits.0 ints.0 (some, (exp_text params right, refl, (right, refl, (fits.1, ints.1, refl)))) in (
      k,
      subst (λ (t : List ℕ). PartBy structs params facts is_first k (part.Fact (Ne left right)) t)
          (sym (cut ∙ append_assoc (exp_text params left) (codes "!=") (exp_text params right))) is,
    )
part_back structs params good_s good facts is_first (part.Atom (Points at kind values)) text (fits, ints, cut) =
    let some = some_struct structs kind (λ (def : StructDef). length values ≡ length def.fields) fits.1 in
    let (k, is) =
    exp_back_by structs params good facts is_first at next.Bar (part.Atom (Points at kind values)) (cell_tail structs params kind values)
    (may_cells structs facts some) fits.0 ints.0 (some, cell_back structs params at kind values fits.1 fits.2 ints.1) in (
      k,
      subst (λ (t : List ℕ). PartBy structs params facts is_first k (part.Atom (Points at kind values)) t)
          (sym (cut ∙ cell_whole structs params at kind values)) is,
    )
part_back structs params good_s good facts is_first (part.Atom (Seg kind link source target)) text (fits, ints, cut) =
    let (is, has, whole) = segment_back structs params good_s kind link source target fits ints in (
      start.Letter,
      record {
        at = codes "ls";
        left = codes "ls";
        right = segment_tail structs params kind link source target;
        is_left = (member_lead structs params facts is_first (codes "ls") (AnLs has refl), refl);
        is_right = (next.Bracket, (ls_test (codes "ls") (has_some (linked structs)) refl has, is));
        cut = cut ∙ whole;
      },
    )
part_back structs params good_s good facts is_first (part.Atom Junk) text (fits, ints, cut) = (
  start.Letter,
  record {
    at = codes "junk";
    left = codes "junk";
    right = [];
    is_left = (member_lead structs params facts is_first (codes "junk") (AJunk refl), refl);
    is_right = (next.End, inl (refl, (refl, refl)));
    cut = cut;
  },
)
part_back structs params good_s good facts is_first part.Nothing text (some, cut) = (
  start.Letter,
  record {
    at = codes "emp";
    left = codes "emp";
    right = [];
    is_left = (member_lead structs params facts is_first (codes "emp") (AnEmp some refl), refl);
    is_right = (next.End, inr (refl, emp_test (codes "emp") is_first refl some, (refl, refl)));
    cut = cut;
  },
)

-- parts are read exactly
pub part-Reads : (structs : List StructDef) (params : List (List ℕ)) → GoodStructs structs → GoodParams params → (facts is_first : Bool)
    → Reads Anything (PartText structs params facts is_first) PartEnds (read_part structs params facts is_first)
unfolding read_part
part-Reads structs params good_s good facts is_first =
    same-Reads Anything (λ one text. (k : Start) × PartBy structs params facts is_first k one text)
    (PartText structs params facts is_first) PartEnds (by_first start_of (part_by structs params facts is_first))
    (λ one text (k, is). part_to structs params good_s good facts is_first k one text is)
    (λ one text is. part_back structs params good_s good facts is_first one text is)
    (by_first-Reads Anything start_of (PartBy structs params facts is_first) PartEnds (part_by structs params facts is_first)
    (λ k. from-Reads Anything (λ byte. Anything byte × (start_of byte ≡ k)) (PartBy structs params facts is_first k) PartEnds
    (part_by structs params facts is_first k) (λ byte so. tt) (part_by-Reads structs params good_s good facts is_first k))
    (λ k p piece beyond is so. part_start structs params good facts is_first k p piece beyond is))
