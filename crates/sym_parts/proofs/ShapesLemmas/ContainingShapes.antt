-- What is well formed over a list of structures is so over each list that contains it.
use Rattle.std.specs.Prelude.{◌≡◌, ℕ, ◌<◌, List, [], ◌∷◌, length, IsSome}
use Rattle.std.specs.Option.{IsSomeAnd}
use Rattle.std.proofs.Common.{refl}
use Rattle.std.specs.declared.option.Option.{Option}
use Rattle.std.specs.declared.option.Option.TheVariants.{None, Some}
use Rattle.std.proofs.lemmas.List.Elements.{All-weaker}
use Rattle.shape_data.specs.declared.answer.Callee.{Callee}
use Rattle.shape_data.specs.declared.answer.ProcSummary.{ProcSummary}
use Rattle.shape_data.specs.declared.machine.Cell.{Cell}
use Rattle.shape_data.specs.declared.program.Cmd.{Cmd}
use Rattle.shape_data.specs.declared.program.Cmd.TheVariants as cmd
use Rattle.shape_data.specs.declared.program.Flow.{Flow}
use Rattle.shape_data.specs.declared.program.Node.{Node}
use Rattle.shape_data.specs.declared.program.StructDef.{StructDef}
use Rattle.shape_data.specs.declared.symbolic.Atom.{Atom}
use Rattle.shape_data.specs.declared.symbolic.Atom.TheVariants.{Points, Seg, Junk}
use Rattle.shape_data.specs.declared.symbolic.Cert.{Cert}
use Rattle.shape_data.specs.declared.symbolic.Post.{Post}
use Rattle.shape_data.specs.declared.symbolic.Spec.{Spec}
use Rattle.shape_data.specs.declared.symbolic.SymHeap.{SymHeap}
use Rattle.shape_data.specs.declared.symbolic.SymState.{SymState}
use Rattle.shape_data.specs.Heap.{struct_named, HaveShapes, IsHeap, IsSum}
use Rattle.shape_data.specs.Structures.{ContainsStructures}
use Rattle.shape_data.specs.WellFormed.{AreCallees, AreKeyProcs, AreStates, IsAtom, IsCallee, IsCert, IsCmd, IsField, IsFlow, IsKind}
use Rattle.shape_data.specs.WellFormed.{IsNode, IsPost, IsSpec, IsState, IsSummary, IsSymHeap, Limits}

module _ (larger smaller : List StructDef) (contains : ContainsStructures larger smaller) where
  -- what is said of the structure that the smaller list has of a name is said of the larger list's
  pub named-carries : (kind : List ℕ) (P : StructDef → Type 0) → IsSomeAnd (struct_named smaller kind) P
      → IsSomeAnd (struct_named larger kind) P
  named-carries kind P some = by_found (struct_named smaller kind) refl some
    where
      by_found : (found : Option StructDef) → struct_named smaller kind ≡ found → IsSomeAnd found P → IsSomeAnd (struct_named larger kind) P
      by_found None is some = absurd some
      by_found (Some def) is some = rw (contains kind def is) some

  pub kind-carries : (kind : List ℕ) → IsKind smaller kind → IsKind larger kind
  kind-carries kind some = by_found (struct_named smaller kind) refl some
    where
      by_found : (found : Option StructDef) → struct_named smaller kind ≡ found → IsSome found → IsKind larger kind
      by_found None is some = cc
      by_found (Some def) is some = rw (contains kind def is) refl

  pub field-carries : (kind : List ℕ) (field : ℕ) → IsField smaller kind field → IsField larger kind field
  field-carries kind field some = named-carries kind (λ def. field < length def.fields) some

  pub shapes-carry : (heap : List Cell) → HaveShapes smaller heap → HaveShapes larger heap
  shapes-carry [] all = tt
  shapes-carry (cell ∷ cells) all =
      (named-carries cell.kind (λ def. length cell.fields ≡ length def.fields) all.0, shapes-carry cells all.1)

  pub heap-carries : (heap : List Cell) → IsHeap smaller heap → IsHeap larger heap
  heap-carries heap is_heap = record { rising = is_heap.rising; shaped = shapes-carry heap is_heap.shaped }

  pub sum-carries : (whole left right : List Cell) → IsSum smaller whole left right → IsSum larger whole left right
  sum-carries whole left right sum = record {
    is_heap = heap-carries whole sum.is_heap;
    left_is_heap = heap-carries left sum.left_is_heap;
    right_is_heap = heap-carries right sum.right_is_heap;
    cells = sum.cells;
    apart = sum.apart;
  }

  pub cmd-carries : (slots nodes : ℕ) (cmd : Cmd) → IsCmd smaller slots nodes cmd → IsCmd larger slots nodes cmd
  cmd-carries slots nodes (cmd.Copy to from next) is = is
  cmd-carries slots nodes (cmd.Arith to op left right next) is = is
  cmd-carries slots nodes (cmd.Any to ty next) is = is
  cmd-carries slots nodes (cmd.Load to base kind field next) is = (is.0, is.1, field-carries kind field is.2, is.3)
  cmd-carries slots nodes (cmd.Store base kind field from next) is = (is.0, field-carries kind field is.1, is.2, is.3)
  cmd-carries slots nodes (cmd.New to kind next) is = (is.0, kind-carries kind is.1, is.2)
  cmd-carries slots nodes (cmd.Free base kind next) is = (is.0, kind-carries kind is.1, is.2)
  cmd-carries slots nodes (cmd.Call to callee args next) is = is
  cmd-carries slots nodes (cmd.Branch op pointers left right on_true on_false) is = is
  cmd-carries slots nodes (cmd.Return value) is = is

  pub node-carries : (slots nodes : ℕ) (node : Node) → IsNode smaller slots nodes node → IsNode larger slots nodes node
  node-carries slots nodes node is = record { command = cmd-carries slots nodes node.cmd is.command; head = is.head }

  pub flow-carries : (flow : Flow) → IsFlow smaller flow → IsFlow larger flow
  flow-carries flow is = record {
    name = is.name;
    params = is.params;
    param_slots = is.param_slots;
    slots = is.slots;
    types = is.types;
    ret = is.ret;
    entry = is.entry;
    countable = is.countable;
    nodes = All-weaker (IsNode smaller (length flow.slots) (length flow.nodes)) (IsNode larger (length flow.slots) (length flow.nodes))
        (node-carries (length flow.slots) (length flow.nodes)) flow.nodes is.nodes;
  }

  pub procs-carry : (flows : List Flow) → AreKeyProcs smaller flows → AreKeyProcs larger flows
  procs-carry flows are =
      record {
        some = are.some;
        countable = are.countable;
        each = All-weaker (IsFlow smaller) (IsFlow larger) flow-carries flows are.each;
        ordered = are.ordered;
      }

  module _ (limits : Limits) where
    pub atom-carries : (params : ℕ) (atom : Atom) → IsAtom limits smaller params atom → IsAtom limits larger params atom
    atom-carries params (Points at kind fields) is = (is.0, named-carries kind (λ def. length fields ≡ length def.fields) is.1, is.2)
    atom-carries params (Seg kind link from to) is = (field-carries kind link is.0, is.1, is.2)
    atom-carries params Junk is = is

    pub sym_heap-carries : (params : ℕ) (heap : SymHeap) → IsSymHeap limits smaller params heap → IsSymHeap limits larger params heap
    sym_heap-carries params heap is = record {
      parts = is.parts;
      facts = is.facts;
      atoms = All-weaker (IsAtom limits smaller params) (IsAtom limits larger params) (atom-carries params) heap.spatial is.atoms;
    }

    pub state-carries : (params slots : ℕ) (state : SymState) → IsState limits smaller params slots state
        → IsState limits larger params slots state
    state-carries params slots state is =
        record { one_each = is.one_each; locals = is.locals; heap = sym_heap-carries params state.heap is.heap }

    pub states-carry : (params slots : ℕ) (states : List SymState) → AreStates limits smaller params slots states
        → AreStates limits larger params slots states
    states-carry params slots states are = record {
      few = are.few;
      each =
          All-weaker (IsState limits smaller params slots) (IsState limits larger params slots)
          (state-carries params slots) states are.each;
    }

    pub post-carries : (params : ℕ) (post : Post) → IsPost limits smaller params post → IsPost limits larger params post
    post-carries params post is = record { ret = is.ret; heap = sym_heap-carries params post.heap is.heap }

    pub spec-carries : (params : ℕ) (spec : Spec) → IsSpec limits smaller params spec → IsSpec limits larger params spec
    spec-carries params spec is = record {
      pre = sym_heap-carries params spec.pre is.pre;
      countable = is.countable;
      posts = All-weaker (IsPost limits smaller params) (IsPost limits larger params) (post-carries params) spec.posts is.posts;
    }

    pub cert-carries : (flow : Flow) (cert : Cert) → IsCert limits smaller flow cert → IsCert limits larger flow cert
    cert-carries flow cert is = record {
      one_each = is.one_each;
      nodes =
          All-weaker (AreStates limits smaller (length flow.params) (length flow.slots))
          (AreStates limits larger (length flow.params) (length flow.slots))
          (states-carry (length flow.params) (length flow.slots)) cert.nodes is.nodes;
      few = is.few;
      exits =
          All-weaker (IsPost limits smaller (length flow.params)) (IsPost limits larger (length flow.params))
          (post-carries (length flow.params)) cert.exits is.exits;
    }

    pub callee-carries : (callee : Callee) → IsCallee limits smaller callee → IsCallee limits larger callee
    callee-carries callee is = record {
      name = is.name;
      params = is.params;
      few = is.few;
      specs =
          All-weaker (IsSpec limits smaller (length callee.params)) (IsSpec limits larger (length callee.params))
          (spec-carries (length callee.params)) callee.specs is.specs;
    }

    pub callees-carry : (callees : List Callee) → AreCallees limits smaller callees → AreCallees limits larger callees
    callees-carry callees are = record {
      countable = are.countable;
      each = All-weaker (IsCallee limits smaller) (IsCallee limits larger) callee-carries callees are.each;
      different = are.different;
    }

    pub summary-carries : (flow : Flow) (summary : ProcSummary) → IsSummary limits smaller flow summary
        → IsSummary limits larger flow summary
    summary-carries flow summary is = record {
      name = is.name;
      few = is.few;
      specs =
          All-weaker (IsSpec limits smaller (length flow.params)) (IsSpec limits larger (length flow.params))
          (spec-carries (length flow.params)) summary.specs is.specs;
      one_each = is.one_each;
      certs = All-weaker (IsCert limits smaller flow) (IsCert limits larger flow) (cert-carries flow) summary.certs is.certs;
    }
