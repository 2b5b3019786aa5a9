-- Heaps and posts are read exactly.
use Rattle.std.proofs.Common.{◌≡◌, not, if◌then◌else◌, ℕ, zero, suc, ◌+◌, ◌<◌, Bool, true, false, List, [], ◌++◌, Option, Some, None, refl}
use Rattle.std.proofs.Common.{sym, ap, ◌∙◌, subst, arith}
use Rattle.std.proofs.lemmas.Bool.Decides.{nat_tests}
use Rattle.std.specs.Prelude.{codes}
use Rattle.shape_data.specs.declared.program.StructDef.{StructDef}
use Rattle.shape_data.specs.declared.symbolic.Atom.{Atom}
use Rattle.shape_data.specs.declared.symbolic.Atom.TheVariants.{Points, Seg, Junk}
use Rattle.shape_data.specs.declared.symbolic.Fact.{Fact}
use Rattle.shape_data.specs.declared.symbolic.SymHeap.{SymHeap}
use Rattle.sym_text.specs.declared.parts.Part.{Part}
use Rattle.sym_text.specs.declared.parts.Part.TheVariants as part
use Rattle.sym_text.specs.declared.starts.Next.TheVariants as next
use Rattle.sym_text.specs.Outcome.{Reader, give, never, only_if, first, by_first}
use Rattle.sym_text.specs.Reading.{next_of, has_some, is_end, is_star, ret_by, end_by, read_separator, with_part, more_may_come, read_part}
use Rattle.sym_text.specs.Reading.{read_parts}
use Rattle.sym_text.proofs.CellLaws.{PartEnds, Given}
use Rattle.sym_text.proofs.Exactly.{Language, Ends, Reads, Anything, Behind, InRow, bind-Reads, give-Reads, never-Reads, only_if-Reads}
use Rattle.sym_text.proofs.Exactly.{behind-Reads, from-Reads, same-Reads, by_first-Reads}
use Rattle.sym_text.proofs.ExpLaws.{GoodParams}
use Rattle.sym_text.proofs.PartLaws.{end_not_name}
use Rattle.sym_text.proofs.PartTexts.{PartText, part-Reads}
use Rattle.sym_text.proofs.StructLaws.{GoodStructs}

-- SEPARATORS

-- what stands behind a part, before a further one or not
abbrev pub SepText : Bool → Bool → Language Bool
SepText with_ret more true text = (more ≡ true) × (text ≡ codes " * ")
SepText true more false text = text ≡ codes " ret="
SepText false more false text = text ≡ []

-- a heap alone ends with its text
abbrev pub LastEnds : Bool → Option ℕ → Type 0
LastEnds true byte = Unit {0}
LastEnds false byte = byte ≡ None

abbrev pub SepEnds : Bool → Ends Bool
SepEnds with_ret true byte = Unit {0}
SepEnds with_ret false byte = LastEnds with_ret byte

abbrev RetBy : Bool → Bool → Language Bool
RetBy more true one text = (more ≡ true) × Behind (codes "* ") (Given true) one text
RetBy more false one text = Behind (codes "ret=") (Given false) one text

ret_by-Reads : (more star : Bool) → Reads Anything (RetBy more star) (SepEnds true) (ret_by more star)
ret_by-Reads more true =
    only_if-Reads more Anything (Behind (codes "* ") (Given true)) (SepEnds true) _
    (λ so. behind-Reads Anything (codes "* ") (Given true) (SepEnds true) (give true) (give-Reads true (SepEnds true))
    (true, [], (refl, refl)))
ret_by-Reads more false =
    behind-Reads Anything (codes "ret=") (Given false) (SepEnds true) (give false) (give-Reads false (SepEnds true))
    (false, [], (refl, refl))

ret_star : (more star : Bool) (one : Bool) (text beyond : List ℕ) → RetBy more star one text → is_star (first (text ++ beyond)) ≡ star
ret_star more true one text beyond (so, (rest, cut, is)) = ap (λ t. is_star (first (t ++ beyond))) cut
ret_star more false one text beyond (rest, cut, is) = ap (λ t. is_star (first (t ++ beyond))) cut

abbrev EndBy : Bool → Bool → Language Bool
EndBy more true one text = Given false one text
EndBy more false one text = (more ≡ true) × Behind (codes " * ") (Given true) one text

ended : (byte : Option ℕ) → is_end byte ≡ true → byte ≡ None
ended None is = refl
ended (Some byte) is = absurd (let never_so : false ≡ true = is in cc)

end_by-Reads : (more at_end : Bool)
    → Reads (λ byte. Anything byte × (is_end byte ≡ at_end)) (EndBy more at_end) (SepEnds false) (end_by more at_end)
end_by-Reads more true =
    from-Reads (SepEnds false false) (λ byte. Anything byte × (is_end byte ≡ true)) (Given false) (SepEnds false) (give false)
    (λ byte so. ended byte so.1) (give-Reads false (SepEnds false))
end_by-Reads more false =
    only_if-Reads more (λ byte. Anything byte × (is_end byte ≡ false)) (Behind (codes " * ") (Given true)) (SepEnds false) _
    (λ so. behind-Reads (λ byte. Anything byte × (is_end byte ≡ false)) (codes " * ") (Given true) (SepEnds false) (give true)
    (give-Reads true (SepEnds false)) (true, [], (refl, refl)))

end_kind : (more at_end : Bool) (one : Bool) (text beyond : List ℕ) → EndBy more at_end one text → SepEnds false one (first beyond)
    → is_end (first (text ++ beyond)) ≡ at_end
end_kind more true one text beyond (same, none) ends =
    let here : SepEnds false false (first beyond) =
    subst (λ (b : Bool). SepEnds false b (first beyond)) same ends in rw none (ap is_end here)
end_kind more false one text beyond (so, (rest, cut, is)) ends = ap (λ t. is_end (first (t ++ beyond))) cut

pub sep-Reads : (with_ret more : Bool) → Reads Anything (SepText with_ret more) (SepEnds with_ret) (read_separator with_ret more)
unfolding read_separator
sep-Reads true more =
    same-Reads Anything (Behind (codes " ") (λ one text. (star : Bool) × RetBy more star one text)) (SepText true more) (SepEnds true) _
    to back
    (behind-Reads Anything (codes " ") (λ one text. (star : Bool) × RetBy more star one text) (SepEnds true)
    (by_first is_star (ret_by more))
    (by_first-Reads Anything is_star (RetBy more) (SepEnds true) (ret_by more)
    (λ star. from-Reads Anything (λ byte. Anything byte × (is_star byte ≡ star)) (RetBy more star) (SepEnds true) (ret_by more star)
    (λ byte so. tt) (ret_by-Reads more star)) (λ star one text beyond is so. ret_star more star one text beyond is))
    (false, codes "ret=", (false, ([], refl, (refl, refl)))))
  where
    to : (one : Bool) (text : List ℕ) → Behind (codes " ") (λ one text. (star : Bool) × RetBy more star one text) one text
        → SepText true more one text
    to one text (rest, cut, (true, (so, (last, cut2, (same, none))))) =
        subst (λ (b : Bool). SepText true more b text) (sym same)
        (so, cut ∙ ap (λ t. codes " " ++ t) (cut2 ∙ ap (λ t. codes "* " ++ t) none))
    to one text (rest, cut, (false, (last, cut2, (same, none)))) =
        subst (λ (b : Bool). SepText true more b text) (sym same) (cut ∙ ap (λ t. codes " " ++ t) (cut2 ∙ ap (λ t. codes "ret=" ++ t) none))

    back : (one : Bool) (text : List ℕ) → SepText true more one text
        → Behind (codes " ") (λ one text. (star : Bool) × RetBy more star one text) one text
    back true text (so, cut) = (codes "* ", cut, (true, (so, ([], refl, (refl, refl)))))
    back false text cut = (codes "ret=", cut, (false, ([], refl, (refl, refl))))
sep-Reads false more = same-Reads Anything (λ one text. (at_end : Bool) × EndBy more at_end one text) (SepText false more) (SepEnds false) _
    to back
    (by_first-Reads Anything is_end (EndBy more) (SepEnds false) (end_by more) (end_by-Reads more)
    (λ at_end one text beyond is so. end_kind more at_end one text beyond is so))
  where
    to : (one : Bool) (text : List ℕ) → (at_end : Bool) × EndBy more at_end one text → SepText false more one text
    to one text (true, (same, none)) = subst (λ (b : Bool). SepText false more b text) (sym same) none
    to one text (false, (so, (last, cut, (same, none)))) =
        subst (λ (b : Bool). SepText false more b text) (sym same) (so, cut ∙ ap (λ t. codes " * " ++ t) none)

    back : (one : Bool) (text : List ℕ) → SepText false more one text → (at_end : Bool) × EndBy more at_end one text
    back true text (so, cut) = (false, (so, ([], cut, (refl, refl))))
    back false text cut = (true, (refl, cut))

-- PARTS

-- what stands behind a separator
abbrev pub AfterSep : Language SymHeap → SymHeap → Bool → Language SymHeap
AfterSep further heap true = further
AfterSep further heap false = Given heap

-- parts behind those of a heap
abbrev pub PartsText : Bool → List StructDef → List (List ℕ) → ℕ → Bool → SymHeap → Language SymHeap
PartsText with_ret structs params zero is_first heap = λ one text. ⊥
PartsText with_ret structs params (suc left) is_first heap =
    InRow (PartText structs params (not (has_some heap.spatial)) is_first)
    (λ one. InRow (SepText with_ret (more_may_come left one))
    (AfterSep (PartsText with_ret structs params left false (with_part heap one)) (with_part heap one)))

-- a heap's text ends, or goes on
abbrev pub HeapEnds : Bool → Ends SymHeap
HeapEnds with_ret heap byte = LastEnds with_ret byte

last_sep : (with_ret more : Bool) → (text : List ℕ) × SepText with_ret more false text
last_sep true more = (codes " ret=", refl)
last_sep false more = ([], refl)

behind_part_some : (with_ret : Bool) (further : Language SymHeap) (heap : SymHeap) (more : Bool)
    → (h : SymHeap) × (text : List ℕ) × InRow (SepText with_ret more) (AfterSep further heap) h text
behind_part_some with_ret further heap more =
    let (t, is) =
    last_sep with_ret more in (
      heap,
      t
          ++ [],
      record { at = false; left = t; right = []; is_left = is; is_right = (refl, refl); cut = refl },
    )

parts_some : (with_ret : Bool) (structs : List StructDef) (params : List (List ℕ)) (left : ℕ) (is_first : Bool) (heap : SymHeap) → 0 < left
    → (h : SymHeap) × (text : List ℕ) × PartsText with_ret structs params left is_first heap h text
parts_some with_ret structs params zero is_first heap some = absurd (omega arith)
parts_some with_ret structs params (suc left) is_first heap some =
    let one = part.Atom Junk in
    let (h, t, is) =
    behind_part_some with_ret (PartsText with_ret structs params left false (with_part heap one)) (with_part heap one)
    (more_may_come left one) in
    (h, codes "junk" ++ t, record { at = one; left = codes "junk"; right = t; is_left = (tt, tt, refl); is_right = is; cut = refl })

some_left : (left : ℕ) (one : Part) → more_may_come left one ≡ true → 0 < left
some_left left (part.Fact fact) is = grind (arith, nat_tests)
some_left left (part.Atom atom) is = grind (arith, nat_tests)
some_left left part.Nothing is = absurd (let never_so : false ≡ true = is in cc)

part_ends : (one : Part) (byte : Option ℕ) → next_of byte ≡ next.End → PartEnds one byte
part_ends (part.Fact fact) byte is = end_not_name byte is
part_ends (part.Atom (Points at kind fields)) byte is = tt
part_ends (part.Atom (Seg kind link source target)) byte is = tt
part_ends (part.Atom Junk) byte is = is
part_ends part.Nothing byte is = is

behind_part : (with_ret more : Bool) (further : Language SymHeap) (heap h : SymHeap) (text beyond : List ℕ)
    → InRow (SepText with_ret more) (AfterSep further heap) h text → LastEnds with_ret (first beyond)
    → next_of (first (text ++ beyond)) ≡ next.End
behind_part with_ret more further heap h text beyond row ends =
    by_sep with_ret row.at row.left row.right row.cut row.is_left row.is_right ends
  where
    by_sep : (ret : Bool) (sep : Bool) (left right : List ℕ) → text ≡ left ++ right → SepText ret more sep left
        → AfterSep further heap sep h right → LastEnds ret (first beyond) → next_of (first (text ++ beyond)) ≡ next.End
    by_sep ret true left right cut is after ends = ap (λ t. next_of (first (t ++ beyond))) (cut ∙ ap (λ t. t ++ right) is.1)
    by_sep true false left right cut is after ends = ap (λ t. next_of (first (t ++ beyond))) (cut ∙ ap (λ t. t ++ right) is)
    by_sep false false left right cut is after ends =
        ap (λ t. next_of (first (t ++ beyond))) (cut ∙ ap (λ t. t ++ right) is ∙ after.1) ∙ ap next_of ends

after-Reads : (with_ret more : Bool) (further : Language SymHeap) (q : Reader SymHeap) (heap : SymHeap)
    → (more ≡ true → Reads Anything further (HeapEnds with_ret) q)
    → Reads (SepEnds with_ret more) (AfterSep further heap more) (HeapEnds with_ret) (if more then q else give heap)
after-Reads with_ret true further q heap reads = reads refl
after-Reads with_ret false further q heap reads = give-Reads heap (HeapEnds with_ret)

pub parts-Reads : (with_ret : Bool) (structs : List StructDef) (params : List (List ℕ)) → GoodStructs structs → GoodParams params
    → (left : ℕ) (is_first : Bool) (heap : SymHeap)
    → Reads Anything (PartsText with_ret structs params left is_first heap) (HeapEnds with_ret)
    (read_parts with_ret structs params left is_first heap)
unfolding read_parts
parts-Reads with_ret structs params good_s good zero is_first heap = never-Reads Anything (HeapEnds with_ret)
parts-Reads with_ret structs params good_s good (suc left) is_first heap =
    let facts = not (has_some heap.spatial) in
    let further = λ (one : Part). PartsText with_ret structs params left false (with_part heap one) in
    let after = λ (one : Part). InRow (SepText with_ret (more_may_come left one)) (AfterSep (further one) (with_part heap one)) in
    bind-Reads Anything (PartText structs params facts is_first) PartEnds after (HeapEnds with_ret)
    (read_part structs params facts is_first) _ (part-Reads structs params good_s good facts is_first)
    (λ one x is. from-Reads Anything (PartEnds one) (after one) (HeapEnds with_ret) _ (λ byte so. tt)
    (bind-Reads Anything (SepText with_ret (more_may_come left one)) (SepEnds with_ret) (AfterSep (further one) (with_part heap one))
    (HeapEnds with_ret) (read_separator with_ret (more_may_come left one)) _ (sep-Reads with_ret (more_may_come left one))
    (λ more y is_sep. after-Reads with_ret more (further one) (read_parts with_ret structs params left false (with_part heap one))
    (with_part heap one) (λ so. parts-Reads with_ret structs params good_s good left false (with_part heap one)))
    (sep_starts one)
    (sep_some one)))
    (λ one x y h beyond is row so. part_ends one (first (y ++ beyond))
    (behind_part with_ret (more_may_come left one) (further one) (with_part heap one) h y beyond row so))
    (λ one x is. behind_part_some with_ret (further one) (with_part heap one) (more_may_come left one))
  where
    sep_starts : (one : Part) (more : Bool) (x y : List ℕ) (h : SymHeap) (beyond : List ℕ)
        → SepText with_ret (more_may_come left one) more x
        → AfterSep (PartsText with_ret structs params left false (with_part heap one)) (with_part heap one) more h y
        → LastEnds with_ret (first beyond) → SepEnds with_ret more (first (y ++ beyond))
    sep_starts one true x y h beyond is after ends = tt
    sep_starts one false x y h beyond is after ends = rw after.1 ends

    sep_some : (one : Part) (more : Bool) (x : List ℕ) → SepText with_ret (more_may_come left one) more x
        → (h : SymHeap) × (y : List ℕ)
        × AfterSep (PartsText with_ret structs params left false (with_part heap one)) (with_part heap one) more h y
    sep_some one true x is = parts_some with_ret structs params left false (with_part heap one) (some_left left one is.0)
    sep_some one false x is = (with_part heap one, [], (refl, refl))
