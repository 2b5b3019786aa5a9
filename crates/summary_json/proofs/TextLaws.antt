-- Strings with the texts of heaps, posts and expressions are read as they were written, and only so.
use Rattle.std.specs.Prelude.{◌≡◌, ℕ, ◌≤◌, nat_le, true, List, [], length}
use Rattle.std.specs.declared.option.Option.TheVariants.{Some}
use Rattle.std.proofs.Common.{refl, sym, ap, ◌∙◌, subst}
use Rattle.std.proofs.lemmas.Bool.{le-leb, leb-true}
use Rattle.serde_json.specs.Data.{Data, string}
use Rattle.serde_json.specs.Find.{as_str}
use Rattle.shape_data.specs.declared.program.StructDef.{StructDef}
use Rattle.shape_data.specs.declared.symbolic.Exp.{Exp}
use Rattle.shape_data.specs.declared.symbolic.Post.{Post}
use Rattle.shape_data.specs.declared.symbolic.SymHeap.{SymHeap}
use Rattle.shape_data.specs.WellFormed.{AreParams, AreStructs, IsExp}
use Rattle.sym_text.specs.Grammar.{written, IsInt, IsWritten, IsWrittenPost}
use Rattle.sym_text.specs.Outcome.{Got, Reader}
use Rattle.sym_text.specs.Reading.{read_exp, read_whole_heap, read_whole_post}
use Rattle.sym_text.specs.Text.{exp_text, heap_text, post_text}
use Rattle.sym_text.proofs.Exactly.{Anything, Reads}
use Rattle.sym_text.proofs.StructLaws.{good_params, good_structs}
use Rattle.sym_text.proofs.WholeLaws.{AtLast, WholeHeap, WholePost, whole_heap-Reads, whole_post-Reads}
use Rattle.flow_json.specs.Forms.{go_on}
use Rattle.flow_json.specs.Laws.{IsInverse}
use Rattle.flow_json.proofs.InverseLemmas.{go_on_is, go_on_some, some_is, string_only, test_true}
use Rattle.summary_json.specs.Texts.{all_of, exp_data, heap_data, most_of_exp, most_of_heap, post_data, read_exp_data, read_heap}
use Rattle.summary_json.specs.Texts.{read_post, short_string, within}
use Rattle.summary_json.proofs.TextLemmas.{all_got, all_is, exp_got, got_all, got_exp}

module _ {A : Type 0} (Formed : A → Type 0) (text_of : A → List ℕ) (reader : Reader A) (most : ℕ)
    (got : (text : List ℕ) (a : A) → reader text ≡ Got a [] → Formed a × (text ≡ text_of a))
    (complete : (a : A) → Formed a → reader (text_of a) ≡ Got a []) where
  string_inverse : IsInverse (λ a. Formed a × (length (text_of a) ≤ most)) (λ a. string (text_of a))
      (λ d. go_on (short_string most d) (λ text. all_of (reader text)))
  string_inverse = record { back = back; only = only }
    where
      back : (a : A) → Formed a × (length (text_of a) ≤ most) → go_on (short_string most (string (text_of a)))
          (λ text. all_of (reader text)) ≡ Some a
      back a fits =
          let short : within most (text_of a) ≡ Some (text_of a) = rw (le-leb (length (text_of a)) most fits.1) refl in
          go_on_is _ _ (text_of a) _ (go_on_is _ _ (text_of a) _ refl short) (ap all_of (complete a fits.0))

      only : (d : Data) (a : A) → go_on (short_string most d) (λ text. all_of (reader text)) ≡ Some a →
          (string (text_of a) ≡ d) × (Formed a × (length (text_of a) ≤ most))
      only d a is =
          let word = go_on_some (short_string most d) (λ text. all_of (reader text)) a is in
          let found = go_on_some (as_str d) (within most) word.0 word.1 in
          let tested = test_true (nat_le (length found.0) most) (Some found.0) word.0 found.2 in
          let same : found.0 ≡ word.0 = some_is found.0 word.0 tested.1 in
          let one = got word.0 a (all_is (reader word.0) a word.2) in (
            ap string (sym (same ∙ one.1)) ∙ string_only d found.0 found.1,
            (one.0, subst (λ t. length t ≤ most) (same ∙ one.1) (leb-true (length found.0) most tested.0)),
          )

-- what is read as a heap, a post, an expression
abbrev pub HeapIsRead : List StructDef → List (List ℕ) → SymHeap → Type 0
HeapIsRead structs params heap = IsWritten structs params heap × (length (heap_text structs params heap) ≤ most_of_heap)

abbrev pub PostIsRead : List StructDef → List (List ℕ) → Post → Type 0
PostIsRead structs params post = IsWrittenPost structs params post × (length (post_text structs params true post) ≤ most_of_heap)

abbrev pub ExpIsFormed : List (List ℕ) → Exp → Type 0
ExpIsFormed params e = IsExp written (length params) e × IsInt e

abbrev pub ExpIsRead : List (List ℕ) → Exp → Type 0
ExpIsRead params e = ExpIsFormed params e × (length (exp_text params e) ≤ most_of_exp)

module _ (structs : List StructDef) (params : List (List ℕ)) (are_structs : AreStructs structs) (are_params : AreParams params) where
  heap_reads : Reads Anything (WholeHeap structs params) AtLast (read_whole_heap structs params)
  heap_reads = whole_heap-Reads structs params (good_structs structs are_structs) (good_params params are_params)

  post_reads : Reads Anything (WholePost structs params) AtLast (read_whole_post structs params)
  post_reads = whole_post-Reads structs params (good_structs structs are_structs) (good_params params are_params)

  pub heap_inverse : IsInverse (HeapIsRead structs params) (heap_data structs params) (read_heap structs params)
  heap_inverse = string_inverse (IsWritten structs params) (heap_text structs params) (read_whole_heap structs params) most_of_heap
      (got_all (WholeHeap structs params) (read_whole_heap structs params) heap_reads)
      (λ heap formed. all_got (WholeHeap structs params) (read_whole_heap structs params) heap_reads (heap_text structs params heap) heap
      (formed, refl))

  pub post_inverse : IsInverse (PostIsRead structs params) (post_data structs params) (read_post structs params)
  post_inverse = string_inverse (IsWrittenPost structs params) (post_text structs params true) (read_whole_post structs params) most_of_heap
      (got_all (WholePost structs params) (read_whole_post structs params) post_reads)
      (λ post formed. all_got (WholePost structs params) (read_whole_post structs params) post_reads
      (post_text structs params true post) post (formed, refl))

pub exp_inverse : (params : List (List ℕ)) → AreParams params → IsInverse (ExpIsRead params) (exp_data params) (read_exp_data params)
exp_inverse params formed = string_inverse (ExpIsFormed params) (exp_text params) (read_exp params) most_of_exp
    (λ text e is. let one = exp_got params formed text e is in ((one.0, one.1), one.2))
    (λ e is. got_exp params formed (exp_text params e) e (is.0, is.1, refl))
