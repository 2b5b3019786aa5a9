-- Procedures at places, compared one by one.
use Rattle.std.proofs.Common.{◌≡◌, ℕ, zero, suc, ◌+◌, ◌<◌, List, [], ◌∷◌, ◌++◌, length, slice_get, get_or, take, Some, None, Option, refl}
use Rattle.std.proofs.Common.{sym, ap, ◌∙◌, subst, arith, All}
use Rattle.std.specs.List.{filter_map, cons_option}
use Rattle.std.specs.Option.{option_map}
use Rattle.std.proofs.lemmas.List.{length-map, take_more}
use Rattle.shape_data.specs.declared.answer.Key.{Key}
use Rattle.shape_data.specs.declared.program.Flow.{Flow}
use Rattle.shape_data.specs.declared.program.Proc.{Proc}
use Rattle.shape_data.specs.declared.program.Program.{Program}
use Rattle.component_keys.specs.Keys.{flows_of, is_recursive, key_over}
use Rattle.component_keys.specs.Structures.{structs_used}
use Rattle.shape_data.specs.declared.program.StructDef.{StructDef}
use Rattle.composed_keys.proofs.Noted.{more_at}
use Rattle.std.proofs.lemmas.List.Elements.{All-head, All-tail}
use Rattle.std.proofs.lemmas.Option.{slice_get-get_or}
use Rattle.component_keys.proofs.Basics.{not_none, some_same, at_map}

-- as many as places, where there is something at each
pub length_there : {A : Type 0} (things : List A) (places : List ℕ) → All (λ place. place < length things) places →
    length (filter_map (slice_get things) places) ≡ length places
length_there things [] within = refl
length_there {A = A} things (place ∷ places) within =
    by_thing (slice_get things place) refl (length_there things places (All-tail (λ place. place < length things) place places within))
  where
    lt : place < length things
    lt = All-head (λ place. place < length things) place places within

    by_thing : (o : Option A) → slice_get things place ≡ o → length (filter_map (slice_get things) places) ≡ length places →
        length (cons_option o (filter_map (slice_get things) places)) ≡ suc (length places)
    by_thing None e again = absurd (nothing things place lt e)
      where
        nothing : (xs : List A) (i : ℕ) → i < length xs → slice_get xs i ≡ None → ⊥
        nothing [] i lt e = absurd (omega (arith, lt))
        nothing (x ∷ xs) zero lt e = not_none (sym e)
        nothing (x ∷ xs) (suc i) lt e = let less : i < length xs = omega (arith, lt) in nothing xs i less e
    by_thing (Some thing) e again = ap (λ n. suc n) again

-- what stands at the places in turn
pub there_at : {A : Type 0} (things : List A) (places : List ℕ) → All (λ place. place < length things) places → (i place : ℕ) →
    slice_get places i ≡ Some place →
    slice_get (filter_map (slice_get things) places) i ≡ slice_get things place
there_at things [] within i place at = not_none at
there_at {A = A} things (first ∷ places) within i place at =
    by_thing (slice_get things first) refl i at
    (λ k. there_at things places (All-tail (λ place. place < length things) first places within) k place)
  where
    less : first < length things
    less = All-head (λ place. place < length things) first places within

    nothing : (xs : List A) (j : ℕ) → j < length xs → slice_get xs j ≡ None → ⊥
    nothing [] j lt e = absurd (omega (arith, lt))
    nothing (x ∷ xs) zero lt e = not_none (sym e)
    nothing (x ∷ xs) (suc j) lt e = let fewer : j < length xs = omega (arith, lt) in nothing xs j fewer e

    by_thing : (o : Option A) → slice_get things first ≡ o → (i : ℕ) → slice_get (first ∷ places) i ≡ Some place →
        ((k : ℕ) → slice_get places k ≡ Some place → slice_get (filter_map (slice_get things) places) k ≡ slice_get things place) →
        slice_get (cons_option o (filter_map (slice_get things) places)) i ≡ slice_get things place
    by_thing None e i at again = absurd (nothing things first less e)
    by_thing (Some thing) e zero at again = sym e ∙ ap (slice_get things) (some_same at)
    by_thing (Some thing) e (suc i) at again = again i at

-- ---- procedures

pub within_flows : (program : Program) (members : List ℕ) → All (λ number. number < length program.procs) members →
    All (λ number. number < length (flows_of program)) members
within_flows program members within =
    subst (λ n. All (λ number. number < n) members) (sym (length-map program.procs (λ (proc : Proc). proc.flow))) within

module _ (program : Program) (members : List ℕ) (flows : List Flow) (within : All (λ number. number < length program.procs) members)
    (procs : List Proc) (procs_are : procs ≡ program.procs) where
  -- there are as many
  pub flows_length : flows ≡ filter_map (slice_get (flows_of program)) members → length flows ≡ length members
  flows_length e = ap length e ∙ length_there (flows_of program) members (within_flows program members within)

  -- the procedure at a place
  abbrev pub flow_in : ℕ → Proc → Flow
  flow_in i default = (get_or procs (get_or members i 0) default).flow

  flow_at : (i : ℕ) (default : Proc) → i < length members → slice_get (flows_of program) (get_or members i 0) ≡ Some (flow_in i default)
  flow_at i default lt =
      at_map (λ (proc : Proc). proc.flow) program.procs (get_or members i 0) ∙
      ap (option_map (λ (proc : Proc). proc.flow)) (slice_get-get_or program.procs (get_or members i 0) default (within i 0 lt)) ∙
      ap (λ (all : List Proc). Some (get_or all (get_or members i 0) default).flow) (sym procs_are)

  -- one more is the same
  pub flows_more : (i : ℕ) (one : Flow) (default : Proc) → i < length members → i < length flows →
      take i flows ≡ filter_map (slice_get (flows_of program)) (take i members) → one ≡ get_or flows i one →
      one ≡ flow_in i default → take (i + 1) flows ≡ filter_map (slice_get (flows_of program)) (take (i + 1) members)
  flows_more i one default lt less before one_is same =
      take_more flows i one less ∙ ap (λ l. l ++ get_or flows i one ∷ []) before
      ∙ ap (λ f. filter_map (slice_get (flows_of program)) (take i members) ++ f ∷ []) (sym one_is ∙ same) ∙
      sym (more_at (flows_of program) members i (flow_in i default) lt (flow_at i default lt))

  -- what stands at one place in both
  pub flows_same : (i : ℕ) (one : Flow) (default : Proc) → i < length members → i < length flows → one ≡ get_or flows i one →
      flows ≡ filter_map (slice_get (flows_of program)) members →
      one ≡ flow_in i default
  flows_same i one default lt less one_is e =
      some_same
      (ap (λ f. Some f) one_is ∙ sym (slice_get-get_or flows i one less) ∙ ap (λ l. slice_get l i) e ∙
      there_at (flows_of program) members (within_flows program members within) i (get_or members i 0) (slice_get-get_or members i 0 lt)
      ∙ flow_at i default lt)

-- what the three tests tell of a key
module _ (key : Key) (structs : List StructDef) (flows : List Flow) (procs : key.procs ≡ flows) where
  pub recursive_of : key ≡ key_over structs flows key.callees → key.recursive ≡ is_recursive key.procs
  recursive_of e = ap (λ (k : Key). k.recursive) e ∙ ap is_recursive (sym procs)

  pub structs_of : key ≡ key_over structs flows key.callees → key.structs ≡ structs_used structs key.procs key.callees
  structs_of e = ap (λ (k : Key). k.structs) e ∙ ap (λ f. structs_used structs f key.callees) (sym procs)

  pub composed_of : key.recursive ≡ is_recursive key.procs → key.structs ≡ structs_used structs key.procs key.callees →
      key ≡ key_over structs flows key.callees
  composed_of recursive used =
      let one : key.recursive ≡ is_recursive flows = recursive ∙ ap is_recursive procs in
      let two : key.structs ≡ structs_used structs flows key.callees = used ∙ ap (λ f. structs_used structs f key.callees) procs in
      λ i. record { recursive = one i; procs = procs i; structs = two i; callees = key.callees }
