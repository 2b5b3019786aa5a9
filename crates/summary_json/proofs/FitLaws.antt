-- What fits the types and is well formed within the limits of a store is what is read; and what is read fits.
use Rattle.std.specs.Prelude.{ℕ, suc, List, [], ◌∷◌, length, slice_index_or, All}
use Rattle.std.proofs.Common.{arith}
use Rattle.std.proofs.lemmas.List.Elements.{All-cons, All-head, All-nil, All-tail, All-weaker}
use Rattle.shape_data.specs.declared.program.Flow.{Flow}
use Rattle.shape_data.specs.declared.program.StructDef.{StructDef}
use Rattle.shape_data.specs.declared.symbolic.Atom.{Atom}
use Rattle.shape_data.specs.declared.symbolic.Atom.TheVariants.{Points, Seg, Junk}
use Rattle.shape_data.specs.declared.symbolic.Cert.{Cert}
use Rattle.shape_data.specs.declared.symbolic.Exp.{Exp}
use Rattle.shape_data.specs.declared.symbolic.Exp.TheVariants.{Var, Const}
use Rattle.shape_data.specs.declared.symbolic.Fact.{Fact}
use Rattle.shape_data.specs.declared.symbolic.Fact.TheVariants.{Eq, Ne}
use Rattle.shape_data.specs.declared.symbolic.Post.{Post}
use Rattle.shape_data.specs.declared.symbolic.Spec.{Spec}
use Rattle.shape_data.specs.declared.symbolic.SymHeap.{SymHeap}
use Rattle.shape_data.specs.declared.symbolic.SymState.{SymState}
use Rattle.shape_data.specs.declared.answer.Answer.{Answer}
use Rattle.shape_data.specs.declared.answer.Callee.{Callee}
use Rattle.shape_data.specs.declared.answer.Key.{Key}
use Rattle.shape_data.specs.declared.answer.ProcSummary.{ProcSummary}
use Rattle.shape_data.specs.WellFormed.{storable, AreStates, AreStructs, AreSummaries, IsAtom, IsCallee, IsCert, IsExp, IsFact}
use Rattle.shape_data.specs.WellFormed.{IsPost, IsSpec, IsState, IsStorableAnswer, IsStorableKey, IsSummary, IsSymHeap}
use Rattle.sym_text.specs.Grammar.{written, IsInt}
use Rattle.flow_json.specs.Laws.{FlowFits, IsName, StructFits}
use Rattle.summary_json.specs.Fits.{AnswerFits, CalleeFits, CertFits, HeapFits, KeyFits, PostFits, SpecFits, StateFits, SummaryFits}
use Rattle.summary_json.proofs.AnswerLaws.{AreRead, SummaryIsRead}
use Rattle.summary_json.proofs.KeyLaws.{CalleeIsRead, KeyIsRead}
use Rattle.summary_json.proofs.PlainTexts.{IsShort, exp_is_short, heap_is_short, post_is_short}
use Rattle.summary_json.proofs.ScopedLaws.{CertIsRead, SpecIsRead, StateIsRead}
use Rattle.summary_json.proofs.TextLaws.{ExpIsRead, HeapIsRead, PostIsRead}

-- ---- what is storable is written: a store's limits are those of the texts but for the number of parts

written_fact : (params : ℕ) (fact : Fact) → IsFact storable params fact → IsFact written params fact
written_fact params (Eq left right) is = is
written_fact params (Ne left right) is = is

written_exp : (params : ℕ) (e : Exp) → IsExp storable params e → IsExp written params e
written_exp params (Var x) is = is
written_exp params (Const n) is = tt

written_atom : (structs : List StructDef) (params : ℕ) (atom : Atom) → IsAtom storable structs params atom →
    IsAtom written structs params atom
written_atom structs params (Points at kind fields) is =
    (written_exp params at is.0, is.1, All-weaker (IsExp storable params) (IsExp written params) (written_exp params) fields is.2)
written_atom structs params (Seg kind link source target) is = (is.0, written_exp params source is.1, written_exp params target is.2)
written_atom structs params Junk is = tt

written_heap : (structs : List StructDef) (params : ℕ) (heap : SymHeap) → IsSymHeap storable structs params heap →
    IsSymHeap written structs params heap
written_heap structs params heap is = record {
  parts = let few = is.parts in omega arith;
  facts = All-weaker (IsFact storable params) (IsFact written params) (written_fact params) heap.pure is.facts;
  atoms = All-weaker (IsAtom storable structs params) (IsAtom written structs params) (written_atom structs params) heap.spatial is.atoms;
}

short_names : (names : List (List ℕ)) → All IsName names → All IsShort names
short_names names all = All-weaker IsName IsShort (λ name is. is.1) names all

-- ---- from what fits and is well formed to what is read

module _ (structs : List StructDef) (are_structs : AreStructs structs) (fit : All StructFits structs) (params : List (List ℕ))
    (names : All IsName params) where
  heap_read : (heap : SymHeap) → IsSymHeap storable structs (length params) heap → HeapFits heap → HeapIsRead structs params heap
  heap_read heap is fits = (
    record { formed = written_heap structs (length params) heap is; facts = fits.0; atoms = fits.1 },
    heap_is_short structs params are_structs fit (short_names params names) heap is fits,
  )

  post_read : (post : Post) → IsPost storable structs (length params) post → PostFits post → PostIsRead structs params post
  post_read post is fits = (
    record {
      formed = record {
        ret = written_exp (length params) post.ret is.ret;
        heap = written_heap structs (length params) post.heap is.heap;
      };
      ret = fits.0;
      facts = fits.1.0;
      atoms = fits.1.1;
    },
    post_is_short structs params are_structs fit (short_names params names) post is fits,
  )

  exp_read : (e : Exp) → IsExp storable (length params) e → IsInt e → ExpIsRead params e
  exp_read e is fits = ((written_exp (length params) e is, fits), exp_is_short params (short_names params names) e (is, fits))

  spec_read : (spec : Spec) → IsSpec storable structs (length params) spec → SpecFits spec → SpecIsRead structs params spec
  spec_read spec is fits = (λ k d within. post_read _ (is.posts k d within) (fits.1 k d within), heap_read spec.pre is.pre fits.0)

  state_read : (slots : ℕ) (state : SymState) → IsState storable structs (length params) slots state → StateFits state →
      StateIsRead structs params state
  state_read slots state is fits = (
    heap_read state.heap is.heap fits.1,
    λ k d within. exp_read (slice_index_or state.locals k d) (is.locals k d within) (fits.0 k d within),
  )

  states_read : (slots : ℕ) (states : List SymState) → AreStates storable structs (length params) slots states → All StateFits states →
      All (StateIsRead structs params) states
  states_read slots states are fits k d within = state_read slots _ (are.each k d within) (fits k d within)

cert_read : (structs : List StructDef) (are_structs : AreStructs structs) (fit : All StructFits structs) (flow : Flow) →
    All IsName flow.params →
    (cert : Cert) → IsCert storable structs flow cert → CertFits cert → CertIsRead structs flow.params cert
cert_read structs are_structs fit flow names cert is fits = (
  λ k d within. post_read structs are_structs fit flow.params names _ (is.exits k d within) (fits.1 k d within),
  λ k d within. states_read structs are_structs fit flow.params names (length flow.slots) _ (is.nodes k d within) (fits.0 k d within),
)

callee_read : (structs : List StructDef) → AreStructs structs → All StructFits structs → (callee : Callee) →
    IsCallee storable structs callee → CalleeFits callee → CalleeIsRead structs callee
callee_read structs are_structs fit callee is fits = (
  fits.0,
  (fits.1, is.params),
  λ k d within. spec_read structs are_structs fit callee.params fits.1 _ (is.specs k d within)
      (fits.2 k d within),
)

pub key_read : (key : Key) → KeyFits key → IsStorableKey key → KeyIsRead key
key_read key fits is = record {
  structs = fits.structs;
  procs = fits.procs;
  callees = λ k d within. callee_read key.structs is.structs fits.structs _ (is.callees.each k d within) (fits.callees k d within);
}

summary_read : (structs : List StructDef) → AreStructs structs → All StructFits structs → (flow : Flow) → FlowFits flow →
    (summary : ProcSummary) →
    IsSummary storable structs flow summary → SummaryFits summary → SummaryIsRead structs flow.params summary
summary_read structs are_structs fit flow flow_fits summary is fits = record {
  certs = λ k d within. cert_read structs are_structs fit flow flow_fits.params _ (is.certs k d within) (fits.certs k d within);
  name = fits.name;
  reason = fits.reason;
  specs = λ k d within. spec_read structs are_structs fit flow.params flow_fits.params _ (is.specs k d within) (fits.specs k d within);
}

summaries_read : (structs : List StructDef) → AreStructs structs → All StructFits structs → (flows : List Flow) → All FlowFits flows →
    (summaries : List ProcSummary) →
    AreSummaries storable structs flows summaries → All SummaryFits summaries → AreRead structs flows summaries
summaries_read structs are_structs fit [] flows_fit [] are fits = tt
summaries_read structs are_structs fit [] flows_fit (summary ∷ summaries) are fits = absurd (let same = are.one_each in omega arith)
summaries_read structs are_structs fit (flow ∷ flows) flows_fit [] are fits = absurd (let same = are.one_each in omega arith)
summaries_read structs are_structs fit (flow ∷ flows) flows_fit (summary ∷ summaries) are fits = (
  summary_read structs are_structs fit flow (All-head FlowFits flow flows flows_fit) summary (are.each 0 flow summary (omega arith))
      (All-head SummaryFits summary summaries fits),
  summaries_read structs are_structs fit flows (All-tail FlowFits flow flows flows_fit) summaries
      (record {
        one_each = let same = are.one_each in omega arith;
        each = λ place one other within. are.each (suc place) one other (omega arith);
      })
      (All-tail SummaryFits summary summaries fits),
)

pub answer_read : (key : Key) (answer : Answer) → KeyFits key → IsStorableKey key → AnswerFits answer → IsStorableAnswer key answer →
    AreRead key.structs key.procs answer.procs
answer_read key answer key_fits key_is fits is =
    summaries_read key.structs key_is.structs key_fits.structs key.procs key_fits.procs answer.procs is.answers fits

-- ---- what is read fits

module _ (structs : List StructDef) (params : List (List ℕ)) where
  heap_fits : (heap : SymHeap) → HeapIsRead structs params heap → HeapFits heap
  heap_fits heap is = (is.0.facts, is.0.atoms)

  post_fits : (post : Post) → PostIsRead structs params post → PostFits post
  post_fits post is = (is.0.ret, (is.0.facts, is.0.atoms))

  spec_fits : (spec : Spec) → SpecIsRead structs params spec → SpecFits spec
  spec_fits spec is = (heap_fits spec.pre is.1, All-weaker (PostIsRead structs params) PostFits post_fits spec.posts is.0)

  state_fits : (state : SymState) → StateIsRead structs params state → StateFits state
  state_fits state is = (λ k d within. (is.1 k d within).0.1, heap_fits state.heap is.0)

  cert_fits : (cert : Cert) → CertIsRead structs params cert → CertFits cert
  cert_fits cert is = (
    All-weaker (All (StateIsRead structs params)) (All StateFits) (λ states all. All-weaker
        (StateIsRead structs params) StateFits state_fits states all) cert.nodes is.1,
    All-weaker (PostIsRead structs params) PostFits post_fits cert.exits is.0,
  )

  summary_fits : (summary : ProcSummary) → SummaryIsRead structs params summary → SummaryFits summary
  summary_fits summary is = record {
    name = is.name;
    specs = All-weaker (SpecIsRead structs params) SpecFits spec_fits summary.specs is.specs;
    certs = All-weaker (CertIsRead structs params) CertFits cert_fits summary.certs is.certs;
    reason = is.reason;
  }

callee_fits : (structs : List StructDef) (callee : Callee) → CalleeIsRead structs callee → CalleeFits callee
callee_fits structs callee is = (
  is.0,
  is.1.0,
  All-weaker (SpecIsRead structs callee.params) SpecFits
      (spec_fits structs callee.params) callee.specs is.2,
)

pub key_fits : (key : Key) → KeyIsRead key → KeyFits key
key_fits key is = record {
  structs = is.structs;
  procs = is.procs;
  callees = All-weaker (CalleeIsRead key.structs) CalleeFits (callee_fits key.structs) key.callees is.callees;
}

summaries_fit : (structs : List StructDef) (flows : List Flow) (summaries : List ProcSummary) → AreRead structs flows summaries →
    All SummaryFits summaries
summaries_fit structs [] [] are = All-nil SummaryFits
summaries_fit structs [] (summary ∷ summaries) are = absurd are
summaries_fit structs (flow ∷ flows) [] are = absurd are
summaries_fit structs (flow ∷ flows) (summary ∷ summaries) are =
    All-cons SummaryFits summary summaries (summary_fits structs flow.params summary are.0) (summaries_fit structs flows summaries are.1)

pub answer_fits : (key : Key) (answer : Answer) → AreRead key.structs key.procs answer.procs → AnswerFits answer
answer_fits key answer are = summaries_fit key.structs key.procs answer.procs are
