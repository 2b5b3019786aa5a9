-- What the readers of texts tell is what the definitions read.
use Rattle.std.specs.Prelude.{◌≡◌, ℕ, true, codes, List, [], ◌∷◌, ◌++◌, length}
use Rattle.std.specs.declared.option.Option.TheVariants.{None, Some}
use Rattle.std.proofs.Common.{refl, sym, ap, ◌∙◌, subst, arith}
use Rattle.std.proofs.lemmas.List.{append-nil}
use Rattle.std.proofs.lemmas.List.Elements.{All-nil}
use Rattle.shape_data.specs.declared.program.StructDef.{StructDef}
use Rattle.shape_data.specs.declared.symbolic.Exp.{Exp}
use Rattle.shape_data.specs.declared.symbolic.Post.{Post}
use Rattle.shape_data.specs.declared.symbolic.SymHeap.{SymHeap}
use Rattle.shape_data.specs.WellFormed.{AreParams, AreStructs, IsAtom, IsFact, IsStruct}
use Rattle.sym_text.specs.Grammar.{written, HasInts, HoldsInts, IsHeapText, IsPostText, IsRefusal, IsWritten, IsWrittenPost}
use Rattle.sym_text.specs.declared.fault.BadSpec.{BadSpec}
use Rattle.sym_text.specs.declared.fault.BadSpec.TheVariants as bad
use Rattle.sym_text.specs.Outcome.{Outcome, Got, Stopped, Reader, pass, go_on, first, by_first}
use Rattle.sym_text.specs.Reading.{end_only, is_end, read_exp, read_parts, read_whole_heap, read_whole_post}
use Rattle.sym_text.specs.Text.{heap_text, post_text}
use Rattle.sym_text.proofs.Exactly.{Answers, Anything, Language, Reads}
use Rattle.sym_text.proofs.ExpLaws.{ExpText, exp-Reads}
use Rattle.sym_text.proofs.HeapLaws.{parts-Reads}
use Rattle.sym_text.proofs.HeapTexts.{emp_heap, heap_back}
use Rattle.sym_text.proofs.StructLaws.{good_params, good_structs}
use Rattle.sym_text.proofs.WordLaws.{WordEnds}
use Rattle.sym_text.proofs.WholeLaws.{AtLast, WholeHeap, WholePost, got_whole, whole_heap-Reads, whole_post-Reads}
use Rattle.flow_json.proofs.InverseLemmas.{some_is}
use Rattle.flow_json.specs.Unread.{IsUnread}
use Rattle.summary_json.specs.UnreadTexts.{unread_of}
use Rattle.summary_json.specs.Texts.{all_of, exp_of_text}

-- ---- all of a text

pub all_is : {A : Type 0} (o : Outcome A) (value : A) → all_of o ≡ Some value → o ≡ Got value []
all_is (Got a []) value is = ap (λ one. Got one []) (some_is a value is)
all_is (Got a (byte ∷ rest)) value is = cc
all_is (Stopped rest) value is = cc

none_of : {A : Type 0} (o : Outcome A) → ((value : A) → o ≡ Got value [] → ⊥) → all_of o ≡ None
none_of (Got a []) never = absurd (never a refl)
none_of (Got a (byte ∷ rest)) never = refl
none_of (Stopped rest) never = refl

got_value : {A : Type 0} (a b : A) (s t : List ℕ) → Got a s ≡ Got b t → a ≡ b
got_value a b s t is = cc

-- ---- a reader of whole texts

pub got_all : {A : Type 0} (L : Language A) (r : Reader A) → Reads Anything L AtLast r → (text : List ℕ) (value : A) →
    r text ≡ Got value [] → L value text
got_all L r reads text value is = got_whole L r reads text value [] is

pub all_got : {A : Type 0} (L : Language A) (r : Reader A) → Reads Anything L AtLast r → (text : List ℕ) (value : A) → L value text →
    r text ≡ Got value []
all_got L r reads text value is = ap r (sym (append-nil text)) ∙ reads.complete value text [] is refl

-- ---- no structures, and nothing

pub no_structs : AreStructs []
no_structs = record { countable = omega arith; each = All-nil IsStruct; different = λ i j d below within. absurd (omega arith) }

emp_is_written : (params : List (List ℕ)) → IsWritten [] params emp_heap
emp_is_written params = record {
  formed = record {
    parts = omega arith;
    facts = All-nil (IsFact written (length params));
    atoms =
        All-nil (IsAtom written [] (length params));
  };
  facts = All-nil HasInts;
  atoms = All-nil HoldsInts;
}

-- ---- expressions, alone and as results

pub exp_got : (params : List (List ℕ)) → AreParams params → (text : List ℕ) (e : Exp) → read_exp params text ≡ Got e [] →
    ExpText params e text
exp_got params formed text e is = of_outcome (read_exp params text) ((exp-Reads params (good_params params formed)).answers text tt) is
  where
    of_outcome : (o : Outcome Exp) → Answers (ExpText params) WordEnds text o → o ≡ Got e [] → ExpText params e text
    of_outcome (Got a []) g is =
        let whole : text ≡ g.piece = g.cut ∙ append-nil g.piece in
        subst (λ t. ExpText params e t) (sym whole) (subst (λ one. ExpText params one g.piece) (got_value a e [] [] is) g.is)
    of_outcome (Got a (byte ∷ rest)) g is = cc
    of_outcome (Stopped rest) g is = cc

pub got_exp : (params : List (List ℕ)) → AreParams params → (text : List ℕ) (e : Exp) → ExpText params e text →
    read_exp params text ≡ Got e []
got_exp params formed text e is = ap (read_exp params) (sym (append-nil text))
    ∙ (exp-Reads params (good_params params formed)).complete e text [] is tt

-- behind an empty heap the result is read
bare_read : (params : List (List ℕ)) → AreParams params → (text : List ℕ) →
    read_parts true [] params 4000 true emp_heap (codes "emp ret=" ++ text) ≡ Got emp_heap text
bare_read params formed text =
    (parts-Reads true [] params (good_structs [] no_structs) (good_params params formed) 4000 true emp_heap).complete emp_heap
    (codes "emp ret=") text
    (heap_back true [] params emp_heap (codes "emp ret=") (emp_is_written params, refl)) tt

bare_post : (params : List (List ℕ)) → AreParams params → (text : List ℕ) (post : Post) →
    read_whole_post [] params (codes "emp ret=" ++ text) ≡ Got post [] → exp_of_text params text ≡ Some post.ret
unfolding read_whole_post go_on by_first
bare_post params formed text post is = by_exp (read_exp params text) (sym (ap (λ o. pass o behind) (bare_read params formed text)) ∙ is)
  where
    result : SymHeap → Exp → List ℕ → Outcome Post
    result heap ret rest = pass (end_only (is_end (first rest)) rest) (λ done rest. Got (record { ret = ret; heap = heap }) rest)

    behind : SymHeap → List ℕ → Outcome Post
    behind heap rest = pass (read_exp params rest) (result heap)

    by_exp : (o : Outcome Exp) → pass o (result emp_heap) ≡ Got post [] → all_of o ≡ Some post.ret
    by_exp (Got e []) is = let same : record { ret = e; heap = emp_heap } ≡ post =
        got_value (record { ret = e; heap = emp_heap }) post [] [] is in ap (λ (one : Post). Some one.ret) same
    by_exp (Got e (byte ∷ rest)) is = cc
    by_exp (Stopped rest) is = cc

-- the post that has an expression as its result, and nothing else
exp_post : (params : List (List ℕ)) (text : List ℕ) (e : Exp) → ExpText params e text → IsPostText [] params (codes "emp ret=" ++ text)
exp_post params text e is =
    let emp = emp_is_written params in (
      record { ret = e; heap = emp_heap },
      (
        record { formed = record { ret = is.0; heap = emp.formed }; ret = is.1; facts = emp.facts; atoms = emp.atoms },
        ap (λ t. codes "emp ret=" ++ t) is.2,
      ),
    )

-- ---- what the calls tell

module _ (structs : List StructDef) (params : List (List ℕ)) (are_structs : AreStructs structs) (are_params : AreParams params)
    (text : List ℕ) where
  pub heap_is_read : (heap : SymHeap) → IsWritten structs params heap → text ≡ heap_text structs params heap →
      all_of (read_whole_heap structs params text) ≡ Some heap
  heap_is_read heap formed is =
      ap all_of (all_got (WholeHeap structs params) (read_whole_heap structs params)
      (whole_heap-Reads structs params (good_structs structs are_structs) (good_params params are_params)) text heap (formed, is))

  pub no_heap_is_read : (why : BadSpec) → IsRefusal (IsHeapText structs params) text why →
      IsUnread (unread_of why) (all_of (read_whole_heap structs params text))
  no_heap_is_read (bad.At offset) refused = none_of (read_whole_heap structs params text) (λ heap is. refused.no_text (
    heap,
    got_all (WholeHeap structs params) (read_whole_heap structs params)
        (whole_heap-Reads structs params (good_structs structs are_structs) (good_params params are_params)) text heap is,
  ))
  no_heap_is_read bad.OutOfMemory refused = tt

  pub post_is_read : (post : Post) → IsWrittenPost structs params post → text ≡ post_text structs params true post →
      all_of (read_whole_post structs params text) ≡ Some post
  post_is_read post formed is =
      ap all_of (all_got (WholePost structs params) (read_whole_post structs params)
      (whole_post-Reads structs params (good_structs structs are_structs) (good_params params are_params)) text post (formed, is))

  pub no_post_is_read : (why : BadSpec) → IsRefusal (IsPostText structs params) text why →
      IsUnread (unread_of why) (all_of (read_whole_post structs params text))
  no_post_is_read (bad.At offset) refused = none_of (read_whole_post structs params text) (λ post is. refused.no_text (
    post,
    got_all (WholePost structs params) (read_whole_post structs params)
        (whole_post-Reads structs params (good_structs structs are_structs) (good_params params are_params)) text post is,
  ))
  no_post_is_read bad.OutOfMemory refused = tt

pub exp_is_read : (params : List (List ℕ)) → AreParams params → (text : List ℕ) (post : Post) → IsWrittenPost [] params post →
    codes "emp ret=" ++ text ≡ post_text [] params true post → exp_of_text params text ≡ Some post.ret
exp_is_read params formed text post written is =
    bare_post params formed text post
    (all_got (WholePost [] params) (read_whole_post [] params) (whole_post-Reads [] params (good_structs [] no_structs)
    (good_params params formed)) (codes "emp ret=" ++ text) post (written, is))

pub no_exp_is_read : (params : List (List ℕ)) → AreParams params → (text whole : List ℕ) → whole ≡ codes "emp ret=" ++ text →
    (why : BadSpec) → IsRefusal (IsPostText [] params) whole why →
    IsUnread (unread_of why) (exp_of_text params text)
no_exp_is_read params formed text whole is (bad.At offset) refused =
    none_of (read_exp params text) (λ e read. refused.no_text (subst (IsPostText [] params) (sym is)
    (exp_post params text e (exp_got params formed text e read))))
no_exp_is_read params formed text whole is bad.OutOfMemory refused = tt
