-- What is well formed within limits is so within wider ones.
use Rattle.std.specs.Prelude.{◌≡◌, ℕ, ◌+◌, ◌<◌, ◌≤◌, nat_lt, true, not, ◌||◌, List, length}
use Rattle.std.proofs.Common.{arith}
use Rattle.std.proofs.lemmas.Bool.{and_parts, lt-ltb, ltb-true}
use Rattle.std.proofs.lemmas.List.Elements.{All-weaker}
use Rattle.shape_data.specs.declared.answer.Callee.{Callee}
use Rattle.shape_data.specs.declared.program.Flow.{Flow}
use Rattle.shape_data.specs.declared.answer.ProcSummary.{ProcSummary}
use Rattle.shape_data.specs.declared.program.StructDef.{StructDef}
use Rattle.shape_data.specs.declared.symbolic.Atom.{Atom}
use Rattle.shape_data.specs.declared.symbolic.Atom.TheVariants.{Points, Seg, Junk}
use Rattle.shape_data.specs.declared.symbolic.Cert.{Cert}
use Rattle.shape_data.specs.declared.symbolic.Exp.{Exp}
use Rattle.shape_data.specs.declared.symbolic.Exp.TheVariants.{Var, Const}
use Rattle.shape_data.specs.declared.symbolic.Fact.{Fact}
use Rattle.shape_data.specs.declared.symbolic.Fact.TheVariants.{Eq, Ne}
use Rattle.shape_data.specs.declared.symbolic.Post.{Post}
use Rattle.shape_data.specs.declared.symbolic.Spec.{Spec}
use Rattle.shape_data.specs.declared.symbolic.SymHeap.{SymHeap}
use Rattle.shape_data.specs.declared.symbolic.SymState.{SymState}
use Rattle.shape_data.specs.WellFormed.{AreCallees, AreStates, IsAtom, IsCallee, IsCert, IsExp, IsFact, IsPost, IsSpec, IsState, IsSummary}
use Rattle.shape_data.specs.WellFormed.{IsSymHeap, Limits}
use Rattle.solve_laws.specs.Certificates.Limits.{AnswerWidens, IsWider, KeyWidens, StorableIsAnalysable}

module _ (limits wider : Limits) (is_wider : IsWider limits wider) where
  module _ (params : ℕ) where
    pub exp : (e : Exp) → IsExp limits params e → IsExp wider params e
    exp (Var x) is = is_wider.variables params x is
    exp (Const n) is = tt

    pub fact : (one : Fact) → IsFact limits params one → IsFact wider params one
    fact (Eq left right) is = (exp left is.0, exp right is.1)
    fact (Ne left right) is = (exp left is.0, exp right is.1)

    module _ (structs : List StructDef) where
      pub atom : (one : Atom) → IsAtom limits structs params one → IsAtom wider structs params one
      atom (Points at kind fields) is = (exp at is.0, is.1, All-weaker (IsExp limits params) (IsExp wider params) exp fields is.2)
      atom (Seg kind link from to) is = (is.0, exp from is.1, exp to is.2)
      atom Junk is = tt

      pub heap : (one : SymHeap) → IsSymHeap limits structs params one → IsSymHeap wider structs params one
      heap one is =
          let few : length one.pure + length one.spatial ≤ limits.parts = is.parts in
          let more : limits.parts ≤ wider.parts = is_wider.parts in record {
            parts = omega arith;
            facts = All-weaker (IsFact limits params) (IsFact wider params) fact one.pure is.facts;
            atoms = All-weaker (IsAtom limits structs params) (IsAtom wider structs params) atom one.spatial is.atoms;
          }

      pub state : (slots : ℕ) (one : SymState) → IsState limits structs params slots one → IsState wider structs params slots one
      state slots one is =
          record {
            one_each = is.one_each;
            locals = All-weaker (IsExp limits params) (IsExp wider params) exp one.locals is.locals;
            heap = heap one.heap is.heap;
          }

      pub post : (one : Post) → IsPost limits structs params one → IsPost wider structs params one
      post one is = record { ret = exp one.ret is.ret; heap = heap one.heap is.heap }

      pub spec : (one : Spec) → IsSpec limits structs params one → IsSpec wider structs params one
      spec one is =
          record {
            pre = heap one.pre is.pre;
            countable = is.countable;
            posts = All-weaker (IsPost limits structs params) (IsPost wider structs params) post one.posts is.posts;
          }

      pub states : (slots : ℕ) (ones : List SymState) → AreStates limits structs params slots ones
          → AreStates wider structs params slots ones
      states slots ones is =
          let few : length ones ≤ limits.states = is.few in
          let more : limits.states ≤ wider.states = is_wider.states in
          record {
            few = omega arith;
            each = All-weaker (IsState limits structs params slots) (IsState wider structs params slots) (state slots) ones is.each;
          }

  module _ (structs : List StructDef) where
    pub cert : (flow : Flow) (one : Cert) → IsCert limits structs flow one → IsCert wider structs flow one
    cert flow one is =
        let few : length one.exits ≤ limits.states = is.few in
        let more : limits.states ≤ wider.states = is_wider.states in record {
          one_each = is.one_each;
          nodes =
              All-weaker (AreStates limits structs (length flow.params) (length flow.slots))
              (AreStates wider structs (length flow.params) (length flow.slots))
              (states (length flow.params) structs (length flow.slots)) one.nodes is.nodes;
          few = omega arith;
          exits =
              All-weaker (IsPost limits structs (length flow.params)) (IsPost wider structs (length flow.params))
              (post (length flow.params) structs) one.exits is.exits;
        }

    pub callee : (one : Callee) → IsCallee limits structs one → IsCallee wider structs one
    callee one is =
        let few : length one.specs ≤ limits.specs = is.few in
        let more : limits.specs ≤ wider.specs = is_wider.specs in
        record {
          name = is.name;
          params = is.params;
          few = omega arith;
          specs =
              All-weaker (IsSpec limits structs (length one.params)) (IsSpec wider structs (length one.params))
              (spec (length one.params) structs) one.specs is.specs;
        }

    pub callees : (ones : List Callee) → AreCallees limits structs ones → AreCallees wider structs ones
    callees ones is =
        record {
          countable = is.countable;
          each = All-weaker (IsCallee limits structs) (IsCallee wider structs) callee ones is.each;
          different = is.different;
        }

    pub summary : (flow : Flow) (one : ProcSummary) → IsSummary limits structs flow one → IsSummary wider structs flow one
    summary flow one is =
        let few : length one.specs ≤ limits.specs = is.few in
        let more : limits.specs ≤ wider.specs = is_wider.specs in record {
          name = is.name;
          few = omega arith;
          specs =
              All-weaker (IsSpec limits structs (length flow.params)) (IsSpec wider structs (length flow.params))
              (spec (length flow.params) structs) one.specs is.specs;
          one_each = is.one_each;
          certs = All-weaker (IsCert limits structs flow) (IsCert wider structs flow) (cert flow) one.certs is.certs;
        }

pub key_widens : KeyWidens
key_widens limits wider key is_wider is =
    record {
      structs = is.structs;
      procs = is.procs;
      callees = callees limits wider is_wider key.structs key.callees is.callees;
      apart = is.apart;
      calls = is.calls;
    }

pub answer_widens : AnswerWidens
answer_widens limits wider key answer is_wider is = record {
  one_each = is.one_each;
  each = λ place flow one below. summary limits wider is_wider key.structs _ _ (is.each place flow one below);
}

pub storable_is_analysable : StorableIsAnalysable
storable_is_analysable = (
  record {
    variables = λ params x is.
        let low : nat_lt x 98304 ≡ true = (and_parts (not (nat_lt x 65536) || nat_lt x (params + 32768)) (nat_lt x 98304) is).1 in
        let less : x < 98304 = ltb-true x 98304 low in
        let below : x < 2147483648 = omega arith in lt-ltb x 2147483648 below;
    parts = omega arith;
    specs = omega arith;
    states = omega arith;
  },
  record { variables = λ params x is. is; parts = omega arith; specs = omega arith; states = omega arith },
)
