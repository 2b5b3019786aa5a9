-- The key of each component is well formed, where answers are so for their keys: up the components.
use Rattle.std.proofs.Common.{◌≡◌, ℕ, zero, suc, ◌<◌, List, map, slice_get, Some, refl, sym, ap, ◌∙◌, subst, arith}
use Rattle.std.proofs.lemmas.Option.{slice_get-map}
use Rattle.shape_data.specs.declared.answer.Answer.{Answer}
use Rattle.shape_data.specs.declared.answer.Key.{Key}
use Rattle.shape_data.specs.declared.program.Flow.{Flow}
use Rattle.shape_data.specs.declared.program.Program.{Program}
use Rattle.shape_data.specs.Structures.{ContainsStructures}
use Rattle.shape_data.specs.WellFormed.{IsAnswer, IsCallee, IsKey, IsProgram, Limits}
use Rattle.component_keys.specs.Keys.{Component, Outer, program_components, specs_in}
use Rattle.component_keys.proofs.Basics.{mapped_some}
use Rattle.component_keys.proofs.Ordered.{callees_before}
use Rattle.key_laws.specs.Composing.{IsCalleeFor}
use Rattle.key_laws.proofs.Callees.{answers_are_callees}
use Rattle.key_laws.proofs.Elements.{all_of, contained_at}
use Rattle.key_laws.proofs.Formed.{composed_are_formed}
use Rattle.key_laws.proofs.Keeping.{used_contained}
use Rattle.key_laws.proofs.Members.{component_at, component_of_class, outer_from, outer_listed}
use Rattle.bottom_up.specs.BottomUp.{answers_in, callee_by, callee_from, key_after, known_by}
use Rattle.bottom_up.proofs.ListPlaces.{zip_mapped}
use Rattle.bottom_up.proofs.Over.{answer_is}

-- a procedure outside of a component is one of its own component, which stands before
pub record IsOutside (program : Program) (place : ℕ) (outer : Outer) : Type 0 where
  pub before : outer.component < place
  pub part : Component
  pub at : slice_get (program_components program) outer.component ≡ Some part
  pub member : ℕ
  pub flow : Flow
  pub flow_at : slice_get part.flows member ≡ Some flow
  pub name : flow.name ≡ outer.name
  pub params : flow.params ≡ outer.params

pub is_outside : (program : Program) → IsProgram program → (place : ℕ) (part : Component) (k : ℕ) (outer : Outer) →
    slice_get (program_components program) place ≡ Some part →
    slice_get part.outer k ≡ Some outer → IsOutside program place outer
is_outside program formed place part k outer at at_k =
    let one = component_at program formed place part at in
    let out = outer_from program formed one.class k outer (ap (λ (c : Component). slice_get c.outer k) (sym one.is) ∙ at_k) in
    let own = outer_listed program formed one.class outer out in
    record {
      before = callees_before program place k part outer at at_k;
      part = _;
      at = component_of_class program formed outer.component own.0 own.1;
      member = own.2;
      flow = own.3;
      flow_at = own.4;
      name = own.5;
      params = own.6;
    }

module _ (limits : Limits) (answer_of : Key → Answer) (answers_fit : (key : Key) → IsKey limits key → IsAnswer limits key (answer_of key))
    (program : Program) (formed : IsProgram program) where
  -- the answers, and the key of a component over them
  abbrev pub answers : List Answer
  answers = answers_in (known_by answer_of program)

  abbrev pub key_at : Component → Key
  key_at part = key_after program.structs answers part

  pub has_structs : (part : Component) → ContainsStructures program.structs (key_at part).structs
  has_structs part = used_contained program.structs formed.structs part.flows (map (callee_from answers) part.outer)

  callee_is : (place : ℕ) (outer : Outer) →
      ((i : ℕ) (part : Component) → i < place → slice_get (program_components program) i ≡ Some part → IsKey limits (key_at part)) →
      IsOutside program place outer → IsCallee limits program.structs (callee_from answers outer)
  callee_is place outer below out =
      let key : Key = key_at out.part in
      let is_key : IsKey limits key = below outer.component out.part out.before out.at in
      let made : IsCallee limits program.structs
      (record { name = out.flow.name; params = out.flow.params; specs = specs_in (answer_of key) out.flow.name }) =
      answers_are_callees limits program.structs key (answer_of key) out.flow is_key (answers_fit key is_key) (has_structs out.part)
      (contained_at out.part.flows out.member out.flow out.flow_at) in
      let named : IsCallee limits program.structs
      (record { name = outer.name; params = out.flow.params; specs = specs_in (answer_of key) outer.name }) =
      subst (λ n. IsCallee limits program.structs
      (record { name = n; params = out.flow.params; specs = specs_in (answer_of key) n })) out.name made in
      let whole : IsCallee limits program.structs (callee_by outer (Some (answer_of key))) =
      subst (λ p. IsCallee limits program.structs
      (record { name = outer.name; params = p; specs = specs_in (answer_of key) outer.name })) out.params named in
      subst (λ o. IsCallee limits program.structs (callee_by outer o))
      (sym (answer_is answer_of program outer.component out.part out.at)) whole

  -- over answers that are well formed for the keys before, it is well formed
  key_over_formed : (place : ℕ) (part : Component) → slice_get (program_components program) place ≡ Some part →
      ((i : ℕ) (other : Component) → i < place → slice_get (program_components program) i ≡ Some other → IsKey limits (key_at other)) →
      IsKey limits (key_at part)
  key_over_formed place part at below =
      composed_are_formed limits program place part (map (callee_from answers) part.outer) formed at
      (zip_mapped IsCalleeFor (callee_from answers) part.outer (λ outer. record { name = refl; params = refl }))
      (all_of (IsCallee limits program.structs) (map (callee_from answers) part.outer)
      (λ k callee at_k.
      let from =
      mapped_some (callee_from answers) (slice_get part.outer k) callee (sym (slice_get-map (callee_from answers) part.outer k) ∙ at_k) in
      subst (IsCallee limits program.structs) (sym from.2)
      (callee_is place from.0 below (is_outside program formed place part k from.0 at from.1))))

  keys_below : (bound place : ℕ) (part : Component) → place < bound → slice_get (program_components program) place ≡ Some part →
      IsKey limits (key_at part)
  keys_below zero place part lt at = absurd (omega (arith, lt))
  keys_below (suc bound) place part lt at =
      key_over_formed place part at (λ i other less at_i. keys_below bound i other (omega (arith, less, lt)) at_i)

  -- each component's key is well formed
  pub key_is : (place : ℕ) (part : Component) → slice_get (program_components program) place ≡ Some part → IsKey limits (key_at part)
  key_is place part at = keys_below (suc place) place part (omega arith) at
