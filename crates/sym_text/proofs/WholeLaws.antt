-- Whole texts: what is got is the heap or post of the text, and where the reader stops the grammar is left.
use Rattle.std.proofs.Common.{◌≡◌, ℕ, ◌+◌, ◌-◌, ◌<◌, Bool, true, false, List, [], ◌∷◌, ◌++◌, length, take, inl, inr, Option, Some, None}
use Rattle.std.proofs.Common.{pos, refl, sym, ap, ◌∙◌, subst, append_assoc, length-append, arith}
use Rattle.std.proofs.lemmas.List.{append-nil}
use Rattle.std.proofs.lemmas.List.Elements.{All-nil}
use Rattle.std.proofs.Math.Seq.{take-append_seam}
use Rattle.std.specs.Prelude.{codes}
use Rattle.shape_data.specs.declared.program.StructDef.{StructDef}
use Rattle.shape_data.specs.declared.symbolic.Exp.{Exp}
use Rattle.shape_data.specs.declared.symbolic.Exp.TheVariants.{Const}
use Rattle.shape_data.specs.declared.symbolic.Post.{Post}
use Rattle.shape_data.specs.declared.symbolic.SymHeap.{SymHeap}
use Rattle.shape_data.specs.WellFormed.{IsFact, IsAtom}
use Rattle.sym_text.specs.Grammar.{written, HasInts, HoldsInts, IsWritten, IsWrittenPost, Begins, IsRefused}
use Rattle.sym_text.specs.Outcome.{Outcome, Got, Stopped, Reader, ◌>>=◌, give, never, first, by_first}
use Rattle.sym_text.specs.Reading.{is_end, end_only, read_exp, read_parts, read_whole_heap, read_whole_post}
use Rattle.sym_text.specs.Text.{exp_text, heap_text, post_text}
use Rattle.sym_text.proofs.Exactly.{Language, Ends, IsGot, IsStopped, Answers, Reads, Anything, InRow, Under, bind-Reads, give-Reads}
use Rattle.sym_text.proofs.Exactly.{never-Reads, under-Reads, from-Reads, same-Reads, by_first-Reads}
use Rattle.sym_text.proofs.ExpLaws.{GoodParams, ExpText, exp-Reads, some_exp}
use Rattle.sym_text.proofs.HeapLaws.{HeapEnds, PartsText, parts-Reads}
use Rattle.sym_text.proofs.HeapTexts.{emp_heap, heap_to, heap_back}
use Rattle.sym_text.proofs.StructLaws.{GoodStructs}
use Rattle.sym_text.proofs.WordLaws.{NotName, WordEnds}

-- nothing stands behind
abbrev pub AtLast : {A : Type 0} → Ends A
AtLast value byte = byte ≡ None

no_first : (text : List ℕ) → first text ≡ None → text ≡ []
no_first [] is = refl
no_first (byte ∷ text) is = absurd (let never_so : Some byte ≡ None = is in cc)

-- what is got is the value of the text
pub got_whole : {A : Type 0} (L : Language A) (r : Reader A) → Reads Anything L AtLast r → (text : List ℕ) (value : A) (rest : List ℕ)
    → r text ≡ Got value rest → L value text
got_whole {A} L r reads text value rest is =
    let g : IsGot L AtLast text value rest = subst (λ (o : Outcome A). Answers L AtLast text o) is (reads.answers text tt) in
    subst (L value) (sym (g.cut ∙ ap (λ t. g.piece ++ t) (no_first rest g.ends_so) ∙ append-nil g.piece)) g.is

-- where the reader stops the grammar is left
pub stopped_whole : {A : Type 0} (L : Language A) (r : Reader A) → Reads Anything L AtLast r → (a : A) × (t : List ℕ) × L a t
    → (text rest : List ℕ) → r text ≡ Stopped rest → (offset : ℕ) → offset + length rest ≡ length text
    → IsRefused (λ t. (a : A) × L a t) text offset
stopped_whole {A} L r reads some text rest is offset long = record {
  within = omega arith;
  begins = subst (Begins (λ t. (a : A) × L a t)) (sym front_is) begins;
  no_more = λ more (behind, (a, text_of)). by_rest rest refl more behind a text_of;
  no_text = λ (a, text_of). clash a [] rest (sym (reads.complete a text [] text_of refl) ∙ ap r (append-nil text) ∙ is);
}
  where
    s : IsStopped L AtLast text rest
    s = subst (λ (o : Outcome A). Answers L AtLast text o) is (reads.answers text tt)

    clash : (value : A) (x y : List ℕ) → Got value x ≡ Stopped y → ⊥
    clash value x y same = cc

    long_front : length s.front ≡ offset
    long_front = let e = ap length s.cut in let f = length-append s.front rest in omega arith

    front_is : take offset text ≡ s.front
    front_is = ap (λ n. take n text) (sym long_front) ∙ ap (take (length s.front)) s.cut ∙ take-append_seam s.front rest

    begins : Begins (λ t. (a : A) × L a t) s.front
    begins = elim s.begun [
      | inl none ↦ (let (a, t, is_text) = some in (t, (a, subst (λ (x : List ℕ). L a (x ++ t)) (sym none) is_text)))
      | inr b ↦ (b.more, (b.value, subst (L b.value) b.text b.is))
    ]

    by_rest : (left : List ℕ) → rest ≡ left → offset < length text → (behind : List ℕ) (a : A) → L a (take (offset + 1) text ++ behind) → ⊥
    by_rest [] same more behind a text_of = absurd (let e = ap length same in omega arith)
    by_rest (byte ∷ others) same more behind a text_of =
        let whole : text ≡ (s.front ++ (byte ∷ [])) ++ others =
        s.cut ∙ ap (λ t. s.front ++ t) same ∙ sym (append_assoc s.front (byte ∷ []) others) in
        let long_more : length (s.front ++ (byte ∷ [])) ≡ offset + 1 = length-append s.front (byte ∷ []) ∙ ap (λ n. n + 1) long_front in
        let front_more : take (offset + 1) text ≡ s.front ++ (byte ∷ []) = ap (λ n. take n text) (sym long_more)
        ∙ ap (take (length (s.front ++ (byte ∷ [])))) whole ∙ take-append_seam (s.front ++ (byte ∷ [])) others in
        s.none byte others same a (take (offset + 1) text ++ behind) [] behind text_of refl
        (append-nil (take (offset + 1) text ++ behind) ∙ ap (λ t. t ++ behind) front_more)

-- HEAPS

abbrev pub WholeHeap : List StructDef → List (List ℕ) → Language SymHeap
WholeHeap structs params heap text = IsWritten structs params heap × (text ≡ heap_text structs params heap)

pub whole_heap-Reads : (structs : List StructDef) (params : List (List ℕ)) → GoodStructs structs → GoodParams params
    → Reads Anything (WholeHeap structs params) AtLast (read_whole_heap structs params)
unfolding read_whole_heap
whole_heap-Reads structs params good_s good =
    same-Reads Anything (PartsText false structs params 4000 true emp_heap) (WholeHeap structs params) AtLast
    (read_parts false structs params 4000 true emp_heap)
    (λ heap text is. let (formed, cut) = heap_to false structs params heap text is in (
      formed,
      cut
          ∙ append-nil (heap_text structs params heap),
    ))
    (λ heap text is. heap_back false structs params heap text (is.0, is.1 ∙ sym (append-nil (heap_text structs params heap))))
    (parts-Reads false structs params good_s good 4000 true emp_heap)

emp_written : (structs : List StructDef) (params : List (List ℕ)) → IsWritten structs params emp_heap
emp_written structs params =
    record {
      formed = record {
        parts = omega arith;
        facts = All-nil (IsFact written (length params));
        atoms = All-nil (IsAtom written structs (length params));
      };
      facts = All-nil HasInts;
      atoms = All-nil HoldsInts;
    }

pub some_heap : (structs : List StructDef) (params : List (List ℕ))
    → (heap : SymHeap) × (text : List ℕ) × WholeHeap structs params heap text
some_heap structs params = (emp_heap, codes "emp", (emp_written structs params, refl))

pub one_text : {A : Type 0} (L : Language A) (r : Reader A) → Reads Anything L AtLast r → (a b : A) (text : List ℕ) → L a text → L b text
    → a ≡ b
one_text {A} L r reads a b text is_a is_b = same a b [] [] (sym (reads.complete a text [] is_a refl) ∙ reads.complete b text [] is_b refl)
  where
    same : (a b : A) (x y : List ℕ) → Got a x ≡ Got b y → a ≡ b
    same a b x y is = cc

-- POSTS

abbrev pub WholePost : List StructDef → List (List ℕ) → Language Post
WholePost structs params post text = IsWrittenPost structs params post × (text ≡ post_text structs params true post)

abbrev EndText : Language (Unit {0})
EndText one text = text ≡ []

end-Reads : Reads Anything EndText AtLast (by_first is_end end_only)
end-Reads = same-Reads Anything (λ one text. (at_end : Bool) × EndBy at_end one text) EndText AtLast (by_first is_end end_only) to back
    (by_first-Reads Anything is_end EndBy AtLast end_only reads kinds)
  where
    EndBy : Bool → Language (Unit {0})
    EndBy true one text = (one ≡ tt {0}) × (text ≡ [])
    EndBy false one text = ⊥

    to : (one : Unit {0}) (text : List ℕ) → (at_end : Bool) × EndBy at_end one text → EndText one text
    to one text (true, is) = is.1
    to one text (false, is) = absurd is

    back : (one : Unit {0}) (text : List ℕ) → EndText one text → (at_end : Bool) × EndBy at_end one text
    back one text is = (true, (refl, is))

    ended : (byte : Option ℕ) → is_end byte ≡ true → byte ≡ None
    ended None is = refl
    ended (Some byte) is = absurd (let never_so : false ≡ true = is in cc)

    reads : (at_end : Bool) → Reads (λ byte. Anything byte × (is_end byte ≡ at_end)) (EndBy at_end) AtLast (end_only at_end)
    reads true =
        from-Reads (AtLast (tt {0})) (λ byte. Anything byte × (is_end byte ≡ true)) (EndBy true) AtLast (give (tt {0}))
        (λ byte so. ended byte so.1) (give-Reads (tt {0}) AtLast)
    reads false = never-Reads (λ byte. Anything byte × (is_end byte ≡ false)) AtLast

    kinds : (at_end : Bool) (one : Unit {0}) (text beyond : List ℕ) → EndBy at_end one text → first beyond ≡ None
        → is_end (first (text ++ beyond)) ≡ at_end
    kinds true one text beyond is ends = rw is.1 (ap is_end ends)
    kinds false one text beyond is ends = absurd is

abbrev Ended : Exp → SymHeap → Language Post
Ended ret heap = Under (λ (done : Unit {0}). record { ret = ret; heap = heap }) EndText

abbrev AfterHeap : List (List ℕ) → SymHeap → Language Post
AfterHeap params heap = InRow (ExpText params) (λ ret. Ended ret heap)

after_heap_some : (params : List (List ℕ)) (heap : SymHeap) → (post : Post) × (text : List ℕ) × AfterHeap params heap post text
after_heap_some params heap =
    let (e, t, is) =
    some_exp params in (
      record { ret = e; heap = heap },
      t
          ++ [],
      record { at = e; left = t; right = []; is_left = is; is_right = (tt, refl, refl); cut = refl },
    )

after_heap-Reads : (params : List (List ℕ)) → GoodParams params → (heap : SymHeap)
    → Reads Anything (AfterHeap params heap) AtLast
    (read_exp params >>= λ ret. (by_first is_end end_only >>= λ done. give (record { ret = ret; heap = heap })))
after_heap-Reads params good heap =
    bind-Reads Anything (ExpText params) WordEnds (λ ret. Ended ret heap) AtLast (read_exp params) _ (exp-Reads params good)
    (λ ret x is. from-Reads Anything (WordEnds ret) (Ended ret heap) AtLast _ (λ byte so. tt)
    (under-Reads Anything (λ (done : Unit {0}). record { ret = ret; heap = heap }) EndText AtLast AtLast (by_first is_end end_only)
    (λ a byte so. so) (λ a byte so. so) end-Reads))
    (λ ret x y post beyond is more ends. starts y beyond more.2 ends)
    (λ ret x is. (record { ret = ret; heap = heap }, [], (tt, refl, refl)))
  where
    starts : (y beyond : List ℕ) → y ≡ [] → first beyond ≡ None → NotName (first (y ++ beyond))
    starts y beyond none ends = rw (none, ends) tt

pub whole_post-Reads : (structs : List StructDef) (params : List (List ℕ)) → GoodStructs structs → GoodParams params
    → Reads Anything (WholePost structs params) AtLast (read_whole_post structs params)
unfolding read_whole_post
whole_post-Reads structs params good_s good =
    same-Reads Anything (InRow (PartsText true structs params 4000 true emp_heap) (AfterHeap params)) (WholePost structs params) AtLast _
    to back
    (bind-Reads Anything (PartsText true structs params 4000 true emp_heap) (HeapEnds true) (AfterHeap params) AtLast
    (read_parts true structs params 4000 true emp_heap) _ (parts-Reads true structs params good_s good 4000 true emp_heap)
    (λ heap x is. after_heap-Reads params good heap)
    (λ heap x y post beyond is more ends. tt)
    (λ heap x is. after_heap_some params heap))
  where
    to : (post : Post) (text : List ℕ) → InRow (PartsText true structs params 4000 true emp_heap) (AfterHeap params) post text
        → WholePost structs params post text
    to post text row =
        let (formed, cut) = heap_to true structs params row.at row.left row.is_left in
        let e = row.is_right in
        let (done, same, none) = e.is_right in
        subst (λ (p : Post). WholePost structs params p text) (sym same) (
          record {
            formed = record { ret = e.is_left.0; heap = formed.formed };
            ret = e.is_left.1;
            facts = formed.facts;
            atoms = formed.atoms;
          },
          row.cut ∙ ap (λ t. t ++ row.right) cut ∙ append_assoc (heap_text structs params row.at) (codes " ret=") row.right
              ∙ ap (λ t. heap_text structs params row.at ++ (codes " ret=" ++ t))
              (e.cut ∙ ap (λ t. e.left ++ t) none ∙ append-nil e.left ∙ e.is_left.2),
        )

    back : (post : Post) (text : List ℕ) → WholePost structs params post text
        → InRow (PartsText true structs params 4000 true emp_heap) (AfterHeap params) post text
    back post text (formed, cut) = record {
      at = post.heap;
      left = heap_text structs params post.heap ++ codes " ret=";
      right = exp_text params post.ret ++ [];
      is_left =
          heap_back true structs params post.heap (heap_text structs params post.heap ++ codes " ret=")
          (record { formed = formed.formed.heap; facts = formed.facts; atoms = formed.atoms }, refl);
      is_right =
          record {
            at = post.ret;
            left = exp_text params post.ret;
            right = [];
            is_left = (formed.formed.ret, formed.ret, refl);
            is_right = (tt, refl, refl);
            cut = refl;
          };
      cut = cut ∙ sym (append_assoc (heap_text structs params post.heap) (codes " ret=") (exp_text params post.ret))
          ∙ ap (λ t. (heap_text structs params post.heap ++ codes " ret=") ++ t) (sym (append-nil (exp_text params post.ret)));
    }

pub some_post : (structs : List StructDef) (params : List (List ℕ)) → (post : Post) × (text : List ℕ) × WholePost structs params post text
some_post structs params =
    let formed = emp_written structs params in (
      record { ret = Const (pos 0); heap = emp_heap },
      post_text structs params true (record { ret = Const (pos 0); heap = emp_heap }),
      (record { formed = record { ret = tt; heap = formed.formed }; ret = omega arith; facts = formed.facts; atoms = formed.atoms }, refl),
    )
