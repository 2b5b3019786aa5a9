-- Specs, states and certificates are read as they were written, and only so.
use Rattle.std.specs.Prelude.{ℕ, codes, List, All}
use Rattle.std.proofs.Common.{refl}
use Rattle.shape_data.specs.declared.program.StructDef.{StructDef}
use Rattle.shape_data.specs.declared.symbolic.Cert.{Cert}
use Rattle.shape_data.specs.declared.symbolic.Exp.{Exp}
use Rattle.shape_data.specs.declared.symbolic.Post.{Post}
use Rattle.shape_data.specs.declared.symbolic.Spec.{Spec}
use Rattle.shape_data.specs.declared.symbolic.SymHeap.{SymHeap}
use Rattle.shape_data.specs.declared.symbolic.SymState.{SymState}
use Rattle.shape_data.specs.WellFormed.{AreParams, AreStructs}
use Rattle.flow_json.specs.Forms.{list_data, read_list}
use Rattle.flow_json.specs.Laws.{IsInverse}
use Rattle.flow_json.proofs.InverseLemmas.{list_inverse}
use Rattle.summary_json.specs.Answers.{cert_data, read_cert, read_state, state_data}
use Rattle.summary_json.specs.Keys.{read_spec, spec_data}
use Rattle.summary_json.specs.Texts.{exp_data, post_data, read_exp_data, read_post}
use Rattle.summary_json.proofs.ObjectLaws.{two_inverse}
use Rattle.summary_json.proofs.TextLaws.{ExpIsRead, HeapIsRead, PostIsRead, exp_inverse, heap_inverse, post_inverse}

-- what is read as a spec, a state, a certificate
abbrev pub SpecIsRead : List StructDef → List (List ℕ) → Spec → Type 0
SpecIsRead structs params spec = All (PostIsRead structs params) spec.posts × HeapIsRead structs params spec.pre

abbrev pub StateIsRead : List StructDef → List (List ℕ) → SymState → Type 0
StateIsRead structs params state = HeapIsRead structs params state.heap × All (ExpIsRead params) state.locals

abbrev pub CertIsRead : List StructDef → List (List ℕ) → Cert → Type 0
CertIsRead structs params cert = All (PostIsRead structs params) cert.exits × All (All (StateIsRead structs params)) cert.nodes

-- each, of its parts
abbrev spec_of : List Post → SymHeap → Spec
spec_of posts pre = record { pre = pre; posts = posts }

abbrev state_of : SymHeap → List Exp → SymState
state_of heap locals = record { locals = locals; heap = heap }

abbrev cert_of : List Post → List (List SymState) → Cert
cert_of exits nodes = record { nodes = nodes; exits = exits }

module _ (structs : List StructDef) (params : List (List ℕ)) (are_structs : AreStructs structs) (are_params : AreParams params) where
  posts_inverse : IsInverse (All (PostIsRead structs params)) (list_data (post_data structs params)) (read_list (read_post structs params))
  posts_inverse = list_inverse (PostIsRead structs params) (post_data structs params) (read_post structs params)
      (post_inverse structs params are_structs are_params)

  locals_inverse : IsInverse (All (ExpIsRead params)) (list_data (exp_data params)) (read_list (read_exp_data params))
  locals_inverse = list_inverse (ExpIsRead params) (exp_data params) (read_exp_data params) (exp_inverse params are_params)

  pub spec_inverse : IsInverse (SpecIsRead structs params) (spec_data structs params) (read_spec structs params)
  spec_inverse = two_inverse (codes "posts") (codes "pre") spec_of (λ (spec : Spec). spec.posts) (λ (spec : Spec). spec.pre)
      posts_inverse (heap_inverse structs params are_structs are_params)
      (λ spec. refl) (λ posts pre. refl) (λ posts pre. refl) (λ x y. refl) (λ x y. refl) (λ x y. refl)

  pub specs_inverse : IsInverse (All (SpecIsRead structs params)) (list_data (spec_data structs params))
      (read_list (read_spec structs params))
  specs_inverse = list_inverse (SpecIsRead structs params) (spec_data structs params) (read_spec structs params) spec_inverse

  state_inverse : IsInverse (StateIsRead structs params) (state_data structs params) (read_state structs params)
  state_inverse = two_inverse (codes "heap") (codes "locals") state_of (λ (state : SymState). state.heap)
      (λ (state : SymState). state.locals)
      (heap_inverse structs params are_structs are_params) locals_inverse
      (λ state. refl) (λ heap locals. refl) (λ heap locals. refl) (λ x y. refl) (λ x y. refl) (λ x y. refl)

  states_inverse : IsInverse (All (StateIsRead structs params)) (list_data (state_data structs params))
      (read_list (read_state structs params))
  states_inverse = list_inverse (StateIsRead structs params) (state_data structs params) (read_state structs params) state_inverse

  nodes_inverse : IsInverse (All (All (StateIsRead structs params))) (list_data (list_data (state_data structs params)))
      (read_list (read_list (read_state structs params)))
  nodes_inverse = list_inverse (All (StateIsRead structs params)) (list_data (state_data structs params))
      (read_list (read_state structs params)) states_inverse

  cert_inverse : IsInverse (CertIsRead structs params) (cert_data structs params) (read_cert structs params)
  cert_inverse = two_inverse (codes "exits") (codes "nodes") cert_of (λ (cert : Cert). cert.exits) (λ (cert : Cert). cert.nodes)
      posts_inverse nodes_inverse
      (λ cert. refl) (λ exits nodes. refl) (λ exits nodes. refl) (λ x y. refl) (λ x y. refl) (λ x y. refl)

  pub certs_inverse : IsInverse (All (CertIsRead structs params)) (list_data (cert_data structs params))
      (read_list (read_cert structs params))
  certs_inverse = list_inverse (CertIsRead structs params) (cert_data structs params) (read_cert structs params) cert_inverse
